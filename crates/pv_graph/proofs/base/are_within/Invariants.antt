use Rattle.std.proofs.Common.{◌≡◌, ℕ, ◌<◌, Some, slice_get}
use Rattle.pv_graph.proofs.base.are_within.Given as goal

abbrev pub invariant-loop-kid : goal.invariant-loop-kid
invariant-loop-kid l = (p k : ℕ) → p < l.kid-index → slice_get l.kids p ≡ Some k → k < l.len
