use Rattle.std.proofs.Common.{ℕ, ◌<◌, ◌-◌, length}
use Rattle.pv_explain.specs.Needed.{IsCite}
use Rattle.pv_explain.proofs.needed.first_cite.Given as goal

abbrev pub invariant-loop-first : goal.invariant-loop-first
invariant-loop-first l = (k : ℕ) → k < l.first → IsCite l.joins l.block k → ⊥

abbrev pub decreases-loop-first : goal.decreases-loop-first
decreases-loop-first l = length l.joins - l.first
