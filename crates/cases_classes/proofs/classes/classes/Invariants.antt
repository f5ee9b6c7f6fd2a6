use Rattle.pv_classes.specs.Calls.{Knows}
use Rattle.cases_classes.proofs.classes.classes.Given as goal

abbrev pub invariant-loop-step : goal.invariant-loop-step
invariant-loop-step l =
    (goal.iterator-loop-step).can_next l.step-iterator ×
    (goal.iterator-loop-step).is_finite l.step-iterator ×
    Knows l.graph.nodes l.classes
