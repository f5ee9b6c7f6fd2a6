use Rattle.pv_loops.proofs.Sources.{AreSourcesBelow}
use Rattle.pv_loops.proofs.shape.sources.Given as goal

abbrev pub invariant-loop-n : goal.invariant-loop-n
invariant-loop-n l = AreSourcesBelow l.shape l.sources l.n
