use Rattle.pv_check.specs.Checking.{NoneBefore}
use Rattle.pv_check.proofs.checker.put_together.Given as goal

abbrev pub invariant-loop-part : goal.invariant-loop-part
invariant-loop-part l = NoneBefore l.parts l.part-index
