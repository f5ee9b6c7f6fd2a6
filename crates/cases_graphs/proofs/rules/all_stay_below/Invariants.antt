use Rattle.std.specs.Prelude.{◌≡◌, ℕ, ◌<◌, Some, slice_get}
use Rattle.pv_graph.specs.declared.node.Node.{Node}
use Rattle.cases_graphs.specs.Rules.{StaysBelow}
use Rattle.cases_graphs.proofs.rules.all_stay_below.Given as goal

abbrev pub invariant-loop-t : goal.invariant-loop-t
invariant-loop-t l = (t : ℕ) (node : Node) → t < l.t → slice_get l.graph.nodes t ≡ Some node → StaysBelow l.n l.e node
