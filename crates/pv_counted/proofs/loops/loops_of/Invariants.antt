use Rattle.pv_counted.specs.Rounds.{AreLoops}
use Rattle.pv_counted.proofs.loops.loops_of.Given as goal

abbrev pub invariant-loop-p : goal.invariant-loop-p
invariant-loop-p l = AreLoops l.g.nodes l.p l.loops.items
