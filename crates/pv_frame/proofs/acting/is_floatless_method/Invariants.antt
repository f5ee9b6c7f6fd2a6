use Rattle.pv_frame.specs.Actions.{IsFloatless}
use Rattle.pv_frame.proofs.Lists.{AllSoFar}
use Rattle.pv_frame.proofs.acting.is_floatless_method.Given as goal

abbrev pub invariant-loop-param : goal.invariant-loop-param
invariant-loop-param l = AllSoFar IsFloatless l.param-items l.param-index
