-- Roots that wait for nothing.
use Rattle.std.specs.Prelude.{◌≡◌, ℕ, Some, slice_get}
use Rattle.pv_graph.specs.declared.node.Node.{Node}
use Rattle.pv_graph.specs.declared.node.Op.TheVariants as op
use Rattle.pv_graph.specs.Graphs.{Graph}
use Rattle.pv_endings.specs.declared.root.RootParts.{RootParts}
use Rattle.pv_endings.specs.Endings.{IsRootOver}

-- a root whose token is a unit
pub record IsOverUnit (g : Graph) (p : ℕ) : Type 0 where
  pub parts : RootParts
  pub over : IsRootOver g p parts
  pub node : Node
  pub there : slice_get g.nodes parts.token ≡ Some node
  pub unit_ : node.op ≡ op.Unit
