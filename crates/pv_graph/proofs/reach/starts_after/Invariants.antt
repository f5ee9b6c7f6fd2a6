use Rattle.std.proofs.Common.{take}
use Rattle.pv_graph.specs.Reach.{AreBegunAfter}
use Rattle.pv_graph.proofs.reach.starts_after.Given as goal

abbrev pub invariant-loop-node : goal.invariant-loop-node
invariant-loop-node l = AreBegunAfter l.known (take l.node-index l.nodes) l.look l.starts.items
