-- Folding: equal nodes are made one, again and again, until no two are equal.
use Rattle.std.specs.Prelude.{◌≡◌, ◌<◌, ◌≤◌, ℕ, List, length, Some, slice_get}
use Rattle.pv_graph.specs.declared.node.Node.{Node}
use Rattle.pv_graph.specs.Walks.{In}
use Rattle.pv_graph.specs.Calls.{IsDistinct}
use Rattle.pv_alike.specs.Least.{UnfoldsAs}
use Rattle.pv_alike.specs.Keys.{number_at}

-- all kids are nodes
abbrev pub KidsAreNodes : List Node → Type 0
KidsAreNodes nodes = (n k : ℕ) (node : Node) → slice_get nodes n ≡ Some node → In node.kids k → k < length nodes

-- the nodes without repetitions, and for each node its place among these
pub record ArePlaces (nodes : List Node) (places : List ℕ) (kept : List Node) : Type 0 where
  pub long : length places ≡ length nodes
  pub few : length kept ≤ length nodes
  pub distinct : IsDistinct kept
  pub each : (n : ℕ) (node : Node) → slice_get nodes n ≡ Some node → slice_get kept (number_at places n) ≡ Some node
  pub met : (m : ℕ) → m < length kept → (n : ℕ) × (n < length nodes) × (number_at places n ≡ m)
  pub all : length nodes ≤ length kept → kept ≡ nodes

-- nodes with the roots r and s, each of which unfolds as a node of the old ones, the roots as a and b
pub record IsFolded (old : List Node) (a b : ℕ) (new : List Node) (r s : ℕ) : Type 0 where
  pub few : length new ≤ length old
  pub within : KidsAreNodes new
  pub first_low : r < length new
  pub second_low : s < length new
  pub first : UnfoldsAs new r old a
  pub second : UnfoldsAs new s old b
  pub each : (p : ℕ) → p < length new → (n : ℕ) × (n < length old) × UnfoldsAs new p old n
