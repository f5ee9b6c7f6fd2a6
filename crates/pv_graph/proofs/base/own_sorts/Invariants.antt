use Rattle.std.proofs.Common.{◌≡◌, take}
use Rattle.pv_graph.specs.Base.{own_sorts}
use Rattle.pv_graph.proofs.base.own_sorts.Given as goal

abbrev pub invariant-loop-node : goal.invariant-loop-node
invariant-loop-node l = l.owns.items ≡ own_sorts (take l.node-index l.nodes)
