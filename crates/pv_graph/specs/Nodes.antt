-- Nodes: an operation over kids, whether it has a name, and whether it is a theta that is not tied.
use Rattle.std.specs.Prelude.{◌≡◌, ℕ, ◌<◌, List, [], Some, slice_get}
use Rattle.pv_graph.specs.declared.node.Op.{Op}
use Rattle.pv_graph.specs.declared.node.Op.TheVariants as op
use Rattle.pv_graph.specs.declared.node.Node.{Node}

abbrev pub node_of : Op → List ℕ → Node
node_of o kids = record { op = o; kids = kids }

-- the operation has a text or a symbol
abbrev pub HasName : Op → Type 0
HasName (op.Literal t) = Unit {0}
HasName (op.GetStatic s) = Unit {0}
HasName (op.PutStatic s) = Unit {0}
HasName (op.GetField s) = Unit {0}
HasName (op.PutField s) = Unit {0}
HasName (op.CallEnd s) = Unit {0}
HasName (op.CallRes s) = Unit {0}
HasName (op.CallFault s) = Unit {0}
HasName (op.CallHeap s) = Unit {0}
HasName o = ⊥

-- a theta that is not tied has no kids
abbrev pub IsOpen : Node → Type 0
IsOpen node = (d : ℕ) × (node ≡ node_of (op.Theta d) [])

-- the least number of a node
pub record IsFirst (nodes : List Node) (node : Node) (n : ℕ) : Type 0 where
  pub there : slice_get nodes n ≡ Some node
  pub least : (m : ℕ) → m < n → slice_get nodes m ≡ Some node → ⊥

abbrev pub IsAbsent : List Node → Node → Type 0
IsAbsent nodes node = (m : ℕ) → slice_get nodes m ≡ Some node → ⊥

-- no theta is left without kids
abbrev pub AreTied : List Node → Type 0
AreTied nodes = (n : ℕ) (node : Node) → slice_get nodes n ≡ Some node → IsOpen node → ⊥
