-- How the index of a graph's nodes grows.
use Rattle.std.specs.Prelude.{◌≡◌, ◌⊎◌, ◌↔◌, ℕ, ◌+◌, ◌<◌, ◌≤◌, List, [], length, Some, slice_get, slice_index_or}
use Rattle.std.specs.List.{Contains}
use Rattle.pv_graph.specs.declared.node.Node.{Node}
use Rattle.pv_pattern.specs.Numbers.{op_numbers}
use Rattle.pv_classes.specs.Numbered.{nodes_with}
use Rattle.pv_classes.specs.Partition.{Parts, at}
use Rattle.pv_classes.specs.Index.{Index, IsIndex, IsTracked}

-- some lists more, without nodes
pub record HasEmptyLists (old new : List (List ℕ)) (count : ℕ) : Type 0 where
  pub long : length new ≡ length old + count
  pub same : (k : ℕ) → slice_index_or new k [] ≡ slice_index_or old k []

-- node n became a parent of each of these kids, after the others
pub record Tells (old new : List (List ℕ)) (kids : List ℕ) (n : ℕ) : Type 0 where
  pub says : (k m : ℕ) → Contains (slice_index_or new k []) m ↔ (Contains (slice_index_or old k []) m ⊎ ((n ≡ m) × Contains kids k))

-- for each of `count` nodes those of the first n nodes with it as a kid
pub record AreParents (nodes : List Node) (n count : ℕ) (parents : List (List ℕ)) : Type 0 where
  pub long : length parents ≡ count
  pub has : (m k : ℕ) (node : Node) → m < n → slice_get nodes m ≡ Some node → Contains node.kids k → Contains (slice_index_or parents k []) m
  pub within : (m k : ℕ) → Contains (slice_index_or parents k []) m → m < n

-- for each number of an operation the nodes with it
pub record AreNumbered (nodes : List Node) (lists : List (List ℕ)) : Type 0 where
  pub long : length lists ≡ op_numbers
  pub says : (number : ℕ) → slice_index_or lists number [] ≡ nodes_with number nodes

-- the nodes from `from` on and below `to` wait too
abbrev pub WaitToo : List ℕ → List ℕ → ℕ → ℕ → Type 0
WaitToo old new from to = (m : ℕ) → Contains new m ↔ (Contains old m ⊎ ((from ≤ m) × (m < to)))

-- the parts of some more nodes, each with a part of its own
pub record HasMore (old new : Parts) (n : ℕ) : Type 0 where
  pub long : length new.labels ≡ n
  pub wider : length old.numbers ≤ n
  pub labels : (k : ℕ) → k < length old.labels → at new.labels k ≡ at old.labels k
  pub kept : (k : ℕ) → k < length old.numbers → at new.numbers k ≡ at old.numbers k
  pub own : (k : ℕ) → length old.numbers ≤ k → k < n → at new.numbers k ≡ k

-- an index of all these nodes
pub record Learns (nodes : List Node) (old new : Index) : Type 0 where
  pub more : HasMore old.parts new.parts (length nodes)
  pub index : IsIndex nodes new
  pub tracked : (n : ℕ) → n < length nodes → IsTracked nodes new n
