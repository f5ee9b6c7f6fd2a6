use Rattle.pv_refute.proofs.Runs.{NoneBefore}
use Rattle.pv_refute.proofs.refuting.refute.Given as goal

abbrev pub invariant-loop-t : goal.invariant-loop-t
invariant-loop-t l = NoneBefore (record { first = l.first; second = l.second; desc = l.desc; tries = l.tries; steps = l.steps }) l.t
