use Rattle.std.proofs.Common.{take}
use Rattle.pv_graph.specs.Reach.{AreStarts}
use Rattle.pv_graph.proofs.reach.started.Given as goal

abbrev pub invariant-loop-n : goal.invariant-loop-n
invariant-loop-n l = AreStarts (take l.n l.starts) l.work.items
