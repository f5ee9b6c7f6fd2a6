use Rattle.std.proofs.Common.{◌≡◌, ℕ, ◌<◌, Some, true, slice_get}
use Rattle.pv_graph.specs.Reach.{IsMarked, follows}
use Rattle.pv_graph.proofs.reach.is_met.Given as goal

abbrev pub invariant-loop-place : goal.invariant-loop-place
invariant-loop-place l = (p k : ℕ) → p < l.place → slice_get l.kids p ≡ Some k → IsMarked l.known k → follows l.look l.op p ≡ true → ⊥
