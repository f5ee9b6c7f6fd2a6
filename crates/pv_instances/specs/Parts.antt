-- Parts of a side, made one after another.
use Rattle.std.specs.Prelude.{ℕ, List}
use Rattle.pv_graph.specs.declared.node.OpSort.{OpSort}
use Rattle.pv_graph.specs.Ops.{HaveSorts}
use Rattle.pv_graph.specs.Graphs.{Graph}
use Rattle.pv_heights.specs.Filled.{Filled, Parts}
use Rattle.pv_heights.specs.Sides.{Match, AreSides}
use Rattle.pv_heights.specs.Rounds.{IsPartOf}
use Rattle.pv_heights.specs.Searches.{nodes, IsNode}
use Rattle.pv_instances.specs.Sorted.{AreSorted}
use Rattle.pv_instances.specs.Made.{GrowsBy, IsSideAt, KeepsDistinct}

-- the parts have these sorts over the nodes of the match
pub record AllSortedOver (g : Graph) (m : Match ℕ) (ps : Parts) (ss : List OpSort) : Type 0 where
  pub kid_sorts : List OpSort
  pub var_sorts : List OpSort
  pub kids_have : HaveSorts g.sorts m.kids kid_sorts
  pub vars_have : HaveSorts g.sorts m.vars var_sorts
  pub sorted : AreSorted kid_sorts var_sorts ps ss

-- the nodes are these parts
abbrev pub AreSidesAt : Graph → Match ℕ → Parts → List ℕ → Type 0
AreSidesAt g m ps ns = AreSides (nodes g) (IsNode g) m ps ns

-- node n is a part of one of them
pub record IsPartOfAt (g : Graph) (m : Match ℕ) (ps : Parts) (n : ℕ) : Type 0 where
  pub inner : Filled
  pub is_inner : IsPartOf inner ps
  pub is : IsSideAt g m inner n

-- these nodes of the new graph are the parts, with their sorts; each new node is a part of one of them, and is there once
pub record MadeSides (old new : Graph) (m : Match ℕ) (ps : Parts) (ns : List ℕ) : Type 0 where
  pub grows : GrowsBy old new (IsPartOfAt new m ps)
  pub distinct : KeepsDistinct old new
  pub are : AreSidesAt new m ps ns
  pub sorts : (ss : List OpSort) → AllSortedOver old m ps ss → HaveSorts new.sorts ns ss
