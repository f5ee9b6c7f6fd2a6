use Rattle.std.proofs.Common.{◌≡◌, ◌<◌, ℕ, Some, slice_get}
use Rattle.pv_steps.specs.declared.step.Step.{Step}
use Rattle.pv_lemmas.specs.Lemmas.{IsOutsideBlocks}
use Rattle.pv_rules.proofs.inside.are_outside_blocks.Given as goal

abbrev pub invariant-loop-step : goal.invariant-loop-step
invariant-loop-step l = (k : ℕ) (s : Step) → k < l.step-index → slice_get l.steps k ≡ Some s → IsOutsideBlocks s
