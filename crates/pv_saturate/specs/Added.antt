-- The instance of a match, made as nodes of a graph. Here h has the nodes with class numbers; from the old graph it grew to the new one.
use Rattle.std.specs.Prelude.{◌≡◌, ℕ, List, slice_get}
use Rattle.std.specs.List.{AllByRecursion}
use Rattle.pv_graph.specs.Graphs.{Graph}
use Rattle.pv_heights.specs.Sides.{Match, StandsIn, IsSideOf}
use Rattle.pv_heights.specs.Rounds.{IsChoice}
use Rattle.pv_heights.specs.Searches.{nodes, IsNode, OneClass}
use Rattle.pv_instances.specs.Made.{GrowsBy, KeepsDistinct, IsPartOfInstance}
use Rattle.pv_saturate.specs.declared.choice.Witnesses.{Witnesses}
use Rattle.pv_saturate.specs.Choice.{AreChosenFor}

-- the left side of the match stands in a class
pub record LeftStands (h : Graph) (numbers : List ℕ) (m : Match ℕ) : Type 0 where
  pub kids : AllByRecursion (IsNode h) m.kids
  pub at_ : ℕ
  pub is : IsNode h at_
  pub stands : StandsIn (nodes h) (IsNode h) (OneClass numbers) m m.entry.left at_

-- the match over these nodes for its variables
abbrev pub over : Match ℕ → List ℕ → Match ℕ
over m vars = record { entry = m.entry; params = m.params; kids = m.kids; vars = vars }

-- these nodes are chosen for its variables, copies of nodes of its classes; l and r are its two sides over them, as a round owes them, and
-- have one sort; old nodes stay, and each new one is a part of a side, and there once
pub record AddedMatch (h old new : Graph) (numbers : List ℕ) (m : Match ℕ) (t : Witnesses) (vars : List ℕ) (l r : ℕ) : Type 0 where
  pub grows : GrowsBy old new (IsPartOfInstance new (over m vars))
  pub distinct : KeepsDistinct old new
  pub chosen : AreChosenFor h new numbers m t m.vars vars
  pub choice_ : IsChoice (nodes new) (IsNode h) (OneClass numbers) (IsNode new) m (over m vars)
  pub left : IsSideOf (nodes new) (IsNode new) (over m vars) m.entry.left l
  pub right : IsSideOf (nodes new) (IsNode new) (over m vars) m.entry.right r
  pub one_sort : slice_get new.sorts l ≡ slice_get new.sorts r
