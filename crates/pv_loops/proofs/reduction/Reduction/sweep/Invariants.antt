use Rattle.pv_loops.proofs.Sweeping.{Sweeping}
use Rattle.pv_loops.proofs.reduction.Reduction.sweep.Given as goal

abbrev pub invariant-loop-n : goal.invariant-loop-n
invariant-loop-n l = Sweeping l.initial.self l.self l.sources l.rest l.kept.items l.n-index
