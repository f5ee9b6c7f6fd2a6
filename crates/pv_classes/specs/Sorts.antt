-- Joins of nodes of one sort.
use Rattle.std.specs.Prelude.{◌≡◌, ℕ, List, slice_get}
use Rattle.std.specs.List.{Contains}
use Rattle.pv_graph.specs.declared.node.OpSort.{OpSort}
use Rattle.pv_classes.specs.declared.join.Join.{Join}

-- two nodes have one sort, where each node has the sort at its number
abbrev pub HaveOneSort : List OpSort → ℕ → ℕ → Type 0
HaveOneSort sorts a b = slice_get sorts a ≡ slice_get sorts b

-- each join is of two nodes of one sort
abbrev pub JoinOneSort : List OpSort → List Join → Type 0
JoinOneSort sorts joins = (j : Join) → Contains joins j → HaveOneSort sorts j.first j.second

-- each pair is of two nodes of one sort
abbrev pub PairOneSort : List OpSort → List (ℕ × ℕ) → Type 0
PairOneSort sorts pairs = (x y : ℕ) → Contains pairs (x, y) → HaveOneSort sorts x y
