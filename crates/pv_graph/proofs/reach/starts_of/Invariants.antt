use Rattle.std.proofs.Common.{take}
use Rattle.pv_graph.specs.Reach.{AreBegun}
use Rattle.pv_graph.proofs.reach.starts_of.Given as goal

abbrev pub invariant-loop-n : goal.invariant-loop-n
invariant-loop-n l = AreBegun (take l.n l.nodes) l.out l.look l.starts.items
