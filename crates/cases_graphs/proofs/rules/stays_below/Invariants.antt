use Rattle.std.specs.Prelude.{◌≡◌, ℕ, ◌<◌, Some, slice_get}
use Rattle.cases_graphs.specs.Rules.{KidStaysBelow}
use Rattle.cases_graphs.proofs.rules.stays_below.Given as goal

abbrev pub invariant-loop-place : goal.invariant-loop-place
invariant-loop-place l = (p k : ℕ) → p < l.place → slice_get l.kids p ≡ Some k → KidStaysBelow l.n l.e l.node.op p k
