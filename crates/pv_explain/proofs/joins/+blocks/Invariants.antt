use Rattle.std.proofs.Common.{◌+◌, ◌*◌, drop, take}
use Rattle.pv_classes.specs.Blocks.{blocks_of, size_of, size_of_all}
use Rattle.pv_writer.specs.Written.{GoesOn}
use Rattle.pv_explain.specs.Levels.{GrowsAt, JoinsStand}
use Rattle.pv_explain.proofs.joins.+blocks.Given as goal

abbrev pub decreases-state_block : goal.decreases-state_block
decreases-state_block l = 4 * size_of l.block.now

abbrev pub decreases-state_pair : goal.decreases-state_pair
decreases-state_pair l = 4 * size_of l.block.now + 1

abbrev pub decreases-state_join : goal.decreases-state_join
decreases-state_join l = 4 * size_of_all (blocks_of l.blocks.now) + 2

abbrev pub decreases-state_joins : goal.decreases-state_joins
decreases-state_joins l = 4 * size_of_all (blocks_of l.blocks.now) + 3

abbrev pub invariant-state_joins-loop-join : goal.invariant-state_joins-loop-join
invariant-state_joins-loop-join l = record {
  stand : JoinsStand l.writer l.source l.level l.blocks (drop l.join-index l.joins);
  grown : GrowsAt l.writer l.source l.initial.level l.level (take l.join-index l.joins);
  goes : GoesOn l.initial.writer l.writer;
}
