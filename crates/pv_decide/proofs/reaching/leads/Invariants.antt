use Rattle.std.proofs.Common.{◌≡◌, ◌<◌, ℕ, Some, slice_get}
use Rattle.pv_decide.proofs.Words.{LeadsOn}
use Rattle.pv_flow.specs.declared.block.Exit.{Exit}
use Rattle.pv_decide.proofs.reaching.leads.Given as goal

abbrev pub invariant-loop-exit : goal.invariant-loop-exit
invariant-loop-exit l = (e : ℕ) (d : Exit) → e < l.exit-index → slice_get l.exit-items e ≡ Some d → LeadsOn l.aim.scope l.aim.target l.known d → ⊥
