-- Classes in which filled sides stand, from their parts up.
use Rattle.std.specs.Prelude.{ℕ, List, Option, Some, None}
use Rattle.std.specs.List.{AllByRecursion, AllZip}
use Rattle.pv_graph.specs.declared.node.Op.{Op}
use Rattle.pv_graph.specs.Graphs.{Graph}
use Rattle.pv_classes.specs.Calls.{Classes, Knows}
use Rattle.pv_heights.specs.Filled.{Filled, Parts}
use Rattle.pv_heights.specs.Sides.{Match, ClassHas, InClass, AllInClass}
use Rattle.pv_heights.specs.Searches.{nodes, IsNode, OneClass, base_view}
use Rattle.pv_heights.specs.SameClasses.{IsCongruence}

-- the classes are those of the graph's nodes and a congruence, and the match is over nodes
pub record CanLook (g : Graph) (c : Classes) (m : Match ℕ) : Type 0 where
  pub knows : Knows g.nodes c
  pub congruence : IsCongruence (base_view g) (nodes g) (IsNode g) (OneClass c.numbers)
  pub kids : AllByRecursion (IsNode g) m.kids
  pub vars : AllByRecursion (IsNode g) m.vars

-- the class of t holds the operation over kids of the classes of these nodes
abbrev pub HoldsOver : Graph → List ℕ → Op → List ℕ → ℕ → Type 0
HoldsOver g numbers o over t = (ks : List ℕ) × ClassHas (nodes g) (IsNode g) (OneClass numbers) t o ks × AllZip (OneClass numbers) ks over

-- a node whose class does, or that there is none
abbrev pub IsClassOver : Graph → List ℕ → Op → List ℕ → Option ℕ → Type 0
IsClassOver g numbers o over (Some c) = IsNode g c × HoldsOver g numbers o over c
IsClassOver g numbers o over None = (t : ℕ) → HoldsOver g numbers o over t → ⊥

-- the filled side stands in the class of t
abbrev pub StandsFilled : Graph → List ℕ → Match ℕ → Filled → ℕ → Type 0
StandsFilled g numbers m s t = InClass (nodes g) (IsNode g) (OneClass numbers) m s t

-- the parts stand in the classes of these nodes, one after another
abbrev pub PartsStand : Graph → List ℕ → Match ℕ → Parts → List ℕ → Type 0
PartsStand g numbers m ps ts = AllInClass (nodes g) (IsNode g) (OneClass numbers) m ps ts

-- a node in whose class the filled side stands, or that there is none
abbrev pub IsClassOf : Graph → List ℕ → Match ℕ → Filled → Option ℕ → Type 0
IsClassOf g numbers m s (Some c) = IsNode g c × StandsFilled g numbers m s c
IsClassOf g numbers m s None = (t : ℕ) → StandsFilled g numbers m s t → ⊥

-- nodes in whose classes the parts stand, or that there are none
abbrev pub AreClassesOf : Graph → List ℕ → Match ℕ → Parts → Option (List ℕ) → Type 0
AreClassesOf g numbers m ps (Some cs) = AllByRecursion (IsNode g) cs × PartsStand g numbers m ps cs
AreClassesOf g numbers m ps None = (ts : List ℕ) → PartsStand g numbers m ps ts → ⊥
