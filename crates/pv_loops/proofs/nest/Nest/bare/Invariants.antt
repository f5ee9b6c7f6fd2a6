use Rattle.pv_loops.proofs.Filling.{Baring}
use Rattle.pv_loops.proofs.nest.Nest.bare.Given as goal

abbrev pub invariant-loop-h : goal.invariant-loop-h
invariant-loop-h l = Baring l.headers l.loops.items l.h-index
