-- Sides of axioms made over the nodes of a graph: which sort a side has there, and what the calls that make it ensure. A match here is
-- an axiom with what its names stand for, and a node for each kid of its family and for each of its variables.
use Rattle.std.specs.Prelude.{◌≡◌, ◌⊎◌, ℕ, ◌<◌, ◌≤◌, List, length, Some, slice_get}
use Rattle.pv_graph.specs.declared.node.OpSort.{OpSort}
use Rattle.pv_graph.specs.Ops.{HaveSorts}
use Rattle.pv_graph.specs.Graphs.{Graph, Extends}
use Rattle.pv_graph.specs.Calls.{IsDistinct}
use Rattle.pv_pattern.specs.Patterns.{Pattern}
use Rattle.pv_heights.specs.Filled.{Filled}
use Rattle.pv_heights.specs.Sides.{Match, side, IsSide, IsSideOf}
use Rattle.pv_heights.specs.Rounds.{IsPart}
use Rattle.pv_heights.specs.Searches.{nodes, IsNode}
use Rattle.pv_instances.specs.Sorted.{IsSorted}

-- ---- sorts

-- the filled side has this sort over the nodes of the match
pub record SortedOver (g : Graph) (m : Match ℕ) (p : Filled) (s : OpSort) : Type 0 where
  pub kid_sorts : List OpSort
  pub var_sorts : List OpSort
  pub kids_have : HaveSorts g.sorts m.kids kid_sorts
  pub vars_have : HaveSorts g.sorts m.vars var_sorts
  pub sorted : IsSorted kid_sorts var_sorts p s

-- the pattern can be filled in, and then has this sort
pub record CanMake (g : Graph) (m : Match ℕ) (p : Pattern) (s : OpSort) : Type 0 where
  pub filled_ : Filled
  pub fills : side m p ≡ Some filled_
  pub sorted : SortedOver g m filled_ s

-- both sides of its axiom can be filled in, and have one sort
pub record CanMakeBoth (g : Graph) (m : Match ℕ) : Type 0 where
  pub sort_ : OpSort
  pub left : CanMake g m m.entry.left sort_
  pub right : CanMake g m m.entry.right sort_

-- ---- what is made

-- the graph keeps its nodes, and each new one is of this kind
pub record GrowsBy (old new : Graph) (Kind : ℕ → Type 0) : Type 0 where
  pub extends_ : Extends old new
  pub sealed : new.is_open ≡ old.is_open
  pub base : new.base ≡ old.base
  pub news : (n : ℕ) → length old.nodes ≤ n → n < length new.nodes → Kind n

-- node n is the filled side
abbrev pub IsSideAt : Graph → Match ℕ → Filled → ℕ → Type 0
IsSideAt g m p n = IsSide (nodes g) (IsNode g) m p n

-- node n is a part of the filled side
pub record IsPartAt (g : Graph) (m : Match ℕ) (whole : Filled) (n : ℕ) : Type 0 where
  pub inner : Filled
  pub is_inner : IsPart inner whole
  pub is : IsSideAt g m inner n

-- no two nodes of the new graph are the same, where no two of the old one are
abbrev pub KeepsDistinct : Graph → Graph → Type 0
KeepsDistinct old new = IsDistinct old.nodes → IsDistinct new.nodes

-- node n of the new graph is the filled side, with its sort; each new node is a part of it, and is there once
pub record MadeSide (old new : Graph) (m : Match ℕ) (p : Filled) (n : ℕ) : Type 0 where
  pub grows : GrowsBy old new (IsPartAt new m p)
  pub distinct : KeepsDistinct old new
  pub is : IsSideAt new m p n
  pub sort_ : (s : OpSort) → SortedOver old m p s → slice_get new.sorts n ≡ Some s

-- the same of the side that the pattern is, filled in
pub record MadePattern (old new : Graph) (m : Match ℕ) (p : Pattern) (n : ℕ) : Type 0 where
  pub filled_ : Filled
  pub fills : side m p ≡ Some filled_
  pub made : MadeSide old new m filled_ n

-- node n is a part of a side of its axiom
pub record IsPartOfInstance (g : Graph) (m : Match ℕ) (n : ℕ) : Type 0 where
  pub whole : Filled
  pub is_whole : (side m m.entry.left ≡ Some whole) ⊎ (side m m.entry.right ≡ Some whole)
  pub part_ : IsPartAt g m whole n

-- nodes l and r are the two sides of its axiom, and have one sort; each new node is a part of a side, and is there once
pub record MadeInstance (old new : Graph) (m : Match ℕ) (l r : ℕ) : Type 0 where
  pub grows : GrowsBy old new (IsPartOfInstance new m)
  pub distinct : KeepsDistinct old new
  pub left : IsSideOf (nodes new) (IsNode new) m m.entry.left l
  pub right : IsSideOf (nodes new) (IsNode new) m m.entry.right r
  pub one_sort : slice_get new.sorts l ≡ slice_get new.sorts r
