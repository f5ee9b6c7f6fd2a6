use Rattle.std.proofs.Common.{◌≡◌, ℕ, ◌<◌, ◌≤◌, ◌-◌, true, length, Some}
use Rattle.std.specs.Prelude.{slice_get}
use Rattle.pv_flow.proofs.head.last_of.Given as goal

abbrev pub invariant-loop-last : goal.invariant-loop-last
invariant-loop-last l = record {
  some : l.first ≤ l.last;
  whole : (k : ℕ) → l.first < k → k ≤ l.last → slice_get l.begins k ≡ Some true → ⊥;
}

abbrev pub decreases-loop-last : goal.decreases-loop-last
decreases-loop-last l = length l.begins - l.last
