use Rattle.std.specs.Prelude.{Some, slice_get}
use Rattle.std.proofs.Common.{◌≡◌, ◌<◌, ℕ}
use Rattle.pv_classes.specs.Blocks.{Block}
use Rattle.pv_explain.specs.Marks.{IsMarked, KeepsMarks}
use Rattle.pv_explain.specs.Named.{IsMarkedNode, OfBlock}
use Rattle.pv_explain.proofs.named.mark_cited.Given as goal

abbrev pub invariant-loop-i : goal.invariant-loop-i
invariant-loop-i l = record {
  keeps : KeepsMarks l.initial.marks.items l.marks.items;
  marked : (n : ℕ) (b : Block) → n < l.i → IsMarked l.cited n → slice_get l.blocks n ≡ Some b → OfBlock (IsMarkedNode l.marks.items) b;
}
