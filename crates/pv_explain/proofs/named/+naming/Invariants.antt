use Rattle.std.specs.List.{AllByRecursion}
use Rattle.std.proofs.Common.{◌+◌, ◌*◌, take}
use Rattle.pv_classes.specs.Blocks.{blocks_of, size_of, size_of_all}
use Rattle.pv_explain.specs.Marks.{KeepsMarks}
use Rattle.pv_explain.specs.Named.{IsMarkedNode, OfBlock}
use Rattle.pv_explain.proofs.named.+naming.Given as goal

abbrev pub decreases-mark_block : goal.decreases-mark_block
decreases-mark_block l = 2 * size_of l.block.now

abbrev pub decreases-mark_blocks : goal.decreases-mark_blocks
decreases-mark_blocks l = 2 * size_of_all (blocks_of l.blocks.now) + 1

abbrev pub invariant-mark_blocks-loop-block : goal.invariant-mark_blocks-loop-block
invariant-mark_blocks-loop-block l = record {
  keeps : KeepsMarks l.initial.marks.items l.marks.items;
  marked : AllByRecursion (OfBlock (IsMarkedNode l.marks.items)) (take l.block-index l.blocks);
}
