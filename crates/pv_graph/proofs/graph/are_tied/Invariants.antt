use Rattle.std.proofs.Common.{◌≡◌, ℕ, ◌<◌, Some, slice_get}
use Rattle.pv_graph.specs.declared.node.Node.{Node}
use Rattle.pv_graph.specs.Nodes.{IsOpen}
use Rattle.pv_graph.proofs.graph.are_tied.Given as goal

abbrev pub invariant-loop-node : goal.invariant-loop-node
invariant-loop-node l = (n : ℕ) (node : Node) → n < l.node-index → slice_get l.nodes n ≡ Some node → IsOpen node → ⊥
