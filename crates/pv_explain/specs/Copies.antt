-- Nodes of one graph copied into another: for each node of the first its copy in the second, if it has one.
use Rattle.std.specs.Prelude.{◌≡◌, ℕ, ◌<◌, List, Some, slice_get, Option}
use Rattle.std.specs.List.{AllZip}
use Rattle.pv_graph.specs.declared.node.OpSort.{OpSort}
use Rattle.pv_graph.specs.declared.node.Node.{Node}
use Rattle.pv_graph.specs.Nodes.{node_of}
use Rattle.pv_graph.specs.Graphs.{Graph}

-- m is the copy of k
abbrev pub IsCopied : List (Option ℕ) → ℕ → ℕ → Type 0
IsCopied map k m = slice_get map k ≡ Some (Some m)

abbrev pub HasCopy : List (Option ℕ) → ℕ → Type 0
HasCopy map k = (m : ℕ) × IsCopied map k m

-- node m has the operation of node k over copies of its kids
pub record IsCopyOver (from to : Graph) (map : List (Option ℕ)) (k m : ℕ) : Type 0 where
  pub node : Node
  pub node_is : slice_get from.nodes k ≡ Some node
  pub kids : List ℕ
  pub kids_are : AllZip (IsCopied map) node.kids kids
  pub copy_is : slice_get to.nodes m ≡ Some (node_of node.op kids)

-- a copy has its node's operation over copies of its kids, and its sort; nodes of the base are their own copies
pub record AreCopies (from to : Graph) (map : List (Option ℕ)) : Type 0 where
  pub base_ : (k : ℕ) → k < from.base → IsCopied map k k
  pub each : (k m : ℕ) → IsCopied map k m → IsCopyOver from to map k m
  pub sorts : (k m : ℕ) (s : OpSort) → IsCopied map k m → slice_get from.sorts k ≡ Some s → slice_get to.sorts m ≡ Some s
