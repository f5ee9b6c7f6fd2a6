use Rattle.std.proofs.Common.{◌≡◌, ℕ, ◌<◌, Some, length, slice_get}
use Rattle.pv_graph.specs.declared.node.Node.{Node}
use Rattle.pv_graph.specs.Reach.{KidsWithin}
use Rattle.pv_graph.proofs.base.are_all_within.Given as goal

abbrev pub invariant-loop-node : goal.invariant-loop-node
invariant-loop-node l = (m : ℕ) (node : Node) → m < l.node-index → slice_get l.nodes m ≡ Some node → KidsWithin node.kids (length l.nodes)
