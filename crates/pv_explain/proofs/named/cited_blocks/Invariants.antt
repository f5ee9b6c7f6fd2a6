use Rattle.std.specs.Prelude.{Some, slice_get}
use Rattle.std.proofs.Common.{◌≡◌, ◌<◌, ℕ, length}
use Rattle.pv_classes.specs.declared.join.Join.{Join}
use Rattle.pv_explain.specs.Named.{IsCiteMarked}
use Rattle.pv_explain.proofs.named.cited_blocks.Given as goal

abbrev pub invariant-loop-join : goal.invariant-loop-join
invariant-loop-join l = record {
  long : length l.cited.items ≡ length l.search.blocks.now;
  cited_ : (k : ℕ) (j : Join) → k < l.join-index → slice_get l.search.joins.now k ≡ Some j → IsCiteMarked j.why l.cited.items;
}
