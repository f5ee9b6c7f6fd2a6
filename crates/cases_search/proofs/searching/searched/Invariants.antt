use Rattle.pv_rounds.specs.Searching.{IsBegun}
use Rattle.cases_search.proofs.searching.searched.Given as goal

abbrev pub invariant-loop-step : goal.invariant-loop-step
invariant-loop-step g l =
    (goal.iterator-loop-step g).can_next l.step-iterator ×
    (goal.iterator-loop-step g).is_finite l.step-iterator ×
    IsBegun l.search
