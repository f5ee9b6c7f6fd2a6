use Rattle.std.proofs.Common.{◌≡◌, ℕ, ◌<◌, Some, slice_get}
use Rattle.pv_graph.specs.declared.node.Node.{Node}
use Rattle.pv_graph.specs.Graphs.{IsRanged}
use Rattle.pv_graph.proofs.base.see_ranges.Given as goal

abbrev pub invariant-loop-node : goal.invariant-loop-node
invariant-loop-node l = (m : ℕ) (node : Node) → m < l.node-index → slice_get l.nodes m ≡ Some node → IsRanged node.op
