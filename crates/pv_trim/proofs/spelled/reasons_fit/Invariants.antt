use Rattle.std.proofs.Common.{drop}
use Rattle.std.specs.List.{AllByRecursion}
use Rattle.pv_cert.specs.Reasons.{ReasonFitsInSet}
use Rattle.pv_trim.proofs.spelled.reasons_fit.Given as goal

abbrev pub invariant-loop-reason : goal.invariant-loop-reason
invariant-loop-reason l = AllByRecursion ReasonFitsInSet (drop l.reason-index l.reasons) → AllByRecursion ReasonFitsInSet l.reasons
