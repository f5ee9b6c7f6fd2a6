use Rattle.std.proofs.Common.{drop}
use Rattle.std.specs.List.{AllByRecursion}
use Rattle.pv_cert.specs.StepLines.{StepFits}
use Rattle.pv_trim.proofs.spelled.steps_fit.Given as goal

abbrev pub invariant-loop-step : goal.invariant-loop-step
invariant-loop-step l = AllByRecursion StepFits (drop l.step-index l.steps) → AllByRecursion StepFits l.steps
