use Rattle.pv_frame.proofs.ActingLaws.{CasesSoFar}
use Rattle.pv_frame.proofs.acting.cases_from.Given as goal

abbrev pub invariant-loop-i : goal.invariant-loop-i
invariant-loop-i l = CasesSoFar l.low l.targets l.i l.cases.items
