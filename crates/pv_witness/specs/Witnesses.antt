-- Witnesses: for each class of which a condition holds, a node of which it holds.
use Rattle.std.specs.Prelude.{◌≡◌, ℕ, ◌<◌, Bool, List, length, Option, Some, slice_get}
use Rattle.pv_graph.specs.Graphs.{Graph}
use Rattle.pv_steps.specs.Facts.{View}
use Rattle.pv_heights.specs.Rounds.{Copy}
use Rattle.pv_heights.specs.Searches.{nodes, IsNode, OneClass}
use Rattle.pv_instances.specs.Made.{GrowsBy, KeepsDistinct}
use Rattle.pv_witness.specs.declared.condition.Condition.{Condition}
use Rattle.pv_marks.specs.Classes.{class_of}
use Rattle.pv_witness.specs.Conditions.{HoldsOfNode, HoldsOfClass, AreStarts}

-- In all of these h has the nodes with class numbers, and g grew from it.

-- w is a copy of node u: the node itself, or one with its operation over copies of nodes of its kids' classes
abbrev pub IsCopy : Graph → Graph → List ℕ → ℕ → ℕ → Type 0
IsCopy h g numbers w u = Copy (nodes g) (IsNode h) (OneClass numbers) (IsNode g) w u

-- w is a copy of some node
abbrev pub IsCopied : Graph → Graph → List ℕ → ℕ → Type 0
IsCopied h g numbers w = (u : ℕ) × IsCopy h g numbers w u

-- w is a copy of a node of the class with number c, and has its sort
pub record IsWitness (h g : Graph) (numbers : List ℕ) (c w : ℕ) : Type 0 where
  pub there : w < length g.nodes
  pub of_ : ℕ
  pub is_node : of_ < length h.nodes
  pub class : class_of numbers of_ ≡ c
  pub copy : IsCopy h g numbers w of_
  pub sort_ : slice_get g.sorts w ≡ slice_get h.sorts of_

-- the table has a witness at the number of each class of which the condition holds, and the condition holds of each witness in it; old
-- nodes stay, and each new one is a copy, and there once
pub record AreWitnesses (h old new : Graph) (numbers : List ℕ) (k : Condition) (starts : List Bool) (table : List (Option ℕ)) : Type 0 where
  pub grows : GrowsBy old new (IsCopied h new numbers)
  pub distinct : KeepsDistinct old new
  pub long : length table ≡ length numbers
  pub each : (c w : ℕ) → slice_get table c ≡ Some (Some w) → IsWitness h new numbers c w
  pub hold : (view : View) (assumed : List ℕ) → AreStarts view assumed h k starts → (c w : ℕ) → slice_get table c ≡ Some (Some w) → HoldsOfNode new assumed k w
  pub all : (view : View) (assumed : List ℕ) → AreStarts view assumed h k starts → (n : ℕ) → HoldsOfClass view assumed h numbers k n → (w : ℕ) × (slice_get table (class_of numbers n) ≡ Some (Some w))
