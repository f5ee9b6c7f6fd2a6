-- Numbers of nodes by keys: nodes have one number where they have one key.
use Rattle.std.specs.Prelude.{◌≡◌, ◌⊎◌, ℕ, ◌<◌, ◌≤◌, true, List, [], ◌∷◌, ◌++◌, length, map, take, Some, slice_get, slice_index_or, if◌then◌else◌}
use Rattle.pv_graph.specs.declared.node.Op.{Op}
use Rattle.pv_graph.specs.declared.node.Node.{Node}
use Rattle.pv_graph.specs.Ops.{shape, is_theta}
use Rattle.pv_graph.specs.Nodes.{node_of, IsAbsent}
use Rattle.pv_graph.specs.Calls.{IsDistinct}

-- the key has this number, and was put after the others where it was new
pub record Keyed (old new : List Node) (key : Node) (n : ℕ) : Type 0 where
  pub there : slice_get new n ≡ Some key
  pub grows : (new ≡ old) ⊎ (IsAbsent old key × (new ≡ old ++ key ∷ []))

-- the number at a place of a list
abbrev pub number_at : List ℕ → ℕ → ℕ
number_at numbers n = slice_index_or numbers n 0

-- the operation over the numbers of the kids
abbrev pub over_numbers : (ℕ → ℕ) → Node → Node
over_numbers number node = node_of node.op (map number node.kids)

-- a theta's operation over its class and the numbers of some of its kids
abbrev pub over_class : ℕ → (ℕ → ℕ) → Op → List ℕ → Node
over_class class number o ks = node_of o (class ∷ map number ks)

-- what a pass numbers a node by: a theta by its operation over its class and the number of its first kid, and each other
-- node by its operation over the numbers of its kids
abbrev pub key_of : (ℕ → ℕ) → (ℕ → ℕ) → ℕ → Node → Node
key_of class number n node = if is_theta (shape node.op) then over_class (class n) number node.op (take 1 node.kids) else over_numbers number node

-- what the next class of a theta is numbered by: its operation over its class and the numbers of both kids
abbrev pub theta_key : (ℕ → ℕ) → (ℕ → ℕ) → ℕ → Node → Node
theta_key class number n node = over_class (class n) number node.op node.kids

-- each node has the number of its key
pub record IsKeyed (g : List Node) (class number : ℕ → ℕ) (keys : List Node) : Type 0 where
  pub distinct : IsDistinct keys
  pub each : (n : ℕ) (node : Node) → slice_get g n ≡ Some node → slice_get keys (number n) ≡ Some (key_of class number n node)

-- each theta has the next class of its key
pub record IsClassed (g : List Node) (class number next : ℕ → ℕ) (keys : List Node) : Type 0 where
  pub distinct : IsDistinct keys
  pub each : (n : ℕ) (node : Node) → slice_get g n ≡ Some node → is_theta (shape node.op) ≡ true → slice_get keys (next n) ≡ Some (theta_key class number n node)

-- the numbers are those below count, of which there are no more than nodes
pub record IsOnto (g : List Node) (number : ℕ → ℕ) (count : ℕ) : Type 0 where
  pub few : count ≤ length g
  pub low : (n : ℕ) → n < length g → number n < count
  pub each : (m : ℕ) → m < count → (n : ℕ) × (n < length g) × (number n ≡ m)
