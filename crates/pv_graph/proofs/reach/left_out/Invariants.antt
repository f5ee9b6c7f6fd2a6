use Rattle.std.proofs.Common.{take}
use Rattle.pv_graph.specs.Reach.{AreOut}
use Rattle.pv_graph.proofs.reach.left_out.Given as goal

abbrev pub invariant-loop-n : goal.invariant-loop-n
invariant-loop-n l = AreOut l.len (take l.n-index l.assumed) l.out.items
