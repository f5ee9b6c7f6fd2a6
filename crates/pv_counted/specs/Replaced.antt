-- Nodes with units in place of marked tokens.
use Rattle.std.specs.Prelude.{◌≡◌, ◌⊎◌, ℕ, Bool, true, List, [], length, Some, slice_get}
use Rattle.pv_graph.specs.declared.node.Op.TheVariants as op
use Rattle.pv_graph.specs.declared.node.OpSort.TheVariants.{T}
use Rattle.pv_graph.specs.declared.node.Node.{Node}
use Rattle.pv_graph.specs.Nodes.{node_of}
use Rattle.pv_graph.specs.Graphs.{Graph}

abbrev pub IsMarkedToken : Graph → List Bool → ℕ → Type 0
IsMarkedToken g marks n = (slice_get g.sorts n ≡ Some T) × (slice_get marks n ≡ Some true)

-- a unit stands in place of a marked token, and each other node is as it was
abbrev pub IsReplaced : Graph → List Bool → ℕ → Node → Type 0
IsReplaced g marks n node = (IsMarkedToken g marks n × (node ≡ node_of op.Unit [])) ⊎ ((IsMarkedToken g marks n → ⊥) × (slice_get g.nodes n ≡ Some node))

-- .. so it is for the first `done` nodes
pub record AreReplaced (g : Graph) (marks : List Bool) (done : ℕ) (nodes : List Node) : Type 0 where
  pub long : length nodes ≡ done
  pub each : (n : ℕ) (node : Node) → slice_get nodes n ≡ Some node → IsReplaced g marks n node
