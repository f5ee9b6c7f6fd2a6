-- Orders in which each node comes after its kids, a theta after its first, and how one is made: a node that lacks such a kid
-- waits for it.
use Rattle.std.specs.Prelude.{◌≡◌, ◌⊎◌, ℕ, ◌<◌, ◌≤◌, List, [], ◌++◌, length, take, Some, slice_get, slice_index_or}
use Rattle.std.specs.List.{Contains}
use Rattle.pv_graph.specs.declared.node.Node.{Node}
use Rattle.pv_graph.specs.Walks.{In}
use Rattle.pv_alike.specs.Partition.{earlier_kids}

-- a node has its earlier kids among these nodes
abbrev pub HasKids : List ℕ → Node → Type 0
HasKids seen node = (k : ℕ) → In (earlier_kids node.op node.kids) k → Contains seen k

-- its earlier kid k is not among them
abbrev pub Lacks : List ℕ → Node → ℕ → Type 0
Lacks seen node k = In (earlier_kids node.op node.kids) k × (Contains seen k → ⊥)

-- nodes of a graph, none twice, each after its earlier kids
pub record IsUpward (g : List Node) (order : List ℕ) : Type 0 where
  pub apart : (p q n : ℕ) → slice_get order p ≡ Some n → slice_get order q ≡ Some n → p ≡ q
  pub after : (p n : ℕ) → slice_get order p ≡ Some n → (node : Node) × (slice_get g n ≡ Some node) × HasKids (take p order) node

-- .. and all nodes are there
pub record IsBottomUp (g : List Node) (order : List ℕ) : Type 0 where
  pub up : IsUpward g order
  pub all : (n : ℕ) → n < length g → Contains order n

-- ---- waiting

-- node n waits for node k
abbrev pub Waits : List (List ℕ) → ℕ → ℕ → Type 0
Waits waiting k n = In (slice_index_or waiting k []) n

-- node n waits for a kid that it lacks
pub record Awaits (g : List Node) (seen : List ℕ) (waiting : List (List ℕ)) (n : ℕ) : Type 0 where
  pub kid : ℕ
  pub node : Node
  pub is : slice_get g n ≡ Some node
  pub lacks : Lacks seen node kid
  pub waits : Waits waiting kid n

-- these nodes were put into the order, or wait for a kid that the order lacked
pub record Settles (g : List Node) (old new : List ℕ) (before after : List (List ℕ)) (ns : List ℕ) : Type 0 where
  pub long : length after ≡ length before
  pub grows : (rest : List ℕ) × (new ≡ old ++ rest)
  pub up : IsUpward g new
  pub keeps : (k n : ℕ) → Waits before k n → Waits after k n
  pub only : (k n : ℕ) → Waits after k n → Waits before k n ⊎ In ns n
  pub settled : (n : ℕ) → In ns n → Contains new n ⊎ Awaits g old after n

-- what is not in the order waits for a kid that is not among its first `done` nodes
pub record IsSettling (g : List Node) (order : List ℕ) (waiting : List (List ℕ)) (done : ℕ) : Type 0 where
  pub up : IsUpward g order
  pub long : length waiting ≡ length g
  pub low : (k n : ℕ) → Waits waiting k n → n < length g
  pub reached : done ≤ length order
  pub each : (n : ℕ) → n < length g → Contains order n ⊎ Awaits g (take done order) waiting n
