use Rattle.pv_loops.proofs.Sticking.{Dropping}
use Rattle.pv_loops.proofs.reduction.Reduction.into_stuck.Given as goal

abbrev pub invariant-loop-n : goal.invariant-loop-n
invariant-loop-n l = Dropping l.sources l.fn.self l.steps.items l.n-items l.n-index
