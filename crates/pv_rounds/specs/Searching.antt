-- A search over a least graph: what it is after some rounds, and what its calls do.
use Rattle.std.specs.Prelude.{◌≡◌, ℕ, zero, suc, Bool, false, List, map, length, IfSome}
use Rattle.pv_graph.specs.Graphs.{Graph, IsGraph, IsWellMade, Extends}
use Rattle.pv_graph.specs.Calls.{IsDistinct}
use Rattle.pv_pattern.specs.Patterns.{Axiom}
use Rattle.pv_pattern.specs.Seen.{axiom_seen}
use Rattle.pv_axioms.specs.Entries.{AreAxioms}
use Rattle.pv_classes.specs.Calls.{Classes, IsClasses, IsNew, Knows, Grows}
use Rattle.pv_induct.specs.Inducts.{Inducts}
use Rattle.pv_heights.specs.Sides.{Match}
use Rattle.pv_heights.specs.Searches.{OneClass, base_view, AtLeastAt, IsSaturatedAt, Reached}
use Rattle.pv_instances.specs.Classes.{JoinedHaveOneSort}
use Rattle.pv_marks.specs.Marks.{AreNodeMarks}
use Rattle.pv_match.specs.AllMatches.{AreAllMatches}
use Rattle.pv_touched.specs.Earlier.{WasSeen}
use Rattle.pv_rounds.specs.declared.last.Last.{Last}
use Rattle.pv_rounds.specs.Last.{look_in}
use Rattle.pv_rounds.specs.Known.{EachStands}
use Rattle.pv_rounds.specs.declared.owed.Owed.{Owed}
use Rattle.pv_rounds.specs.Owed.{AddsAll}
use Rattle.pv_rounds.specs.Joining.{JoinsAll}
use Rattle.pv_rounds.specs.declared.search.Search.{Search}
use Rattle.pv_rounds.specs.declared.search.Looked.{Looked}
use Rattle.pv_rounds.specs.declared.search.Looked.TheVariants.{Over, Saturated, Open}

-- a sealed and well-made graph, of which all nodes are the base, and no two nodes are the same
pub record IsLeastGraph (g : Graph) : Type 0 where
  pub made : IsWellMade g
  pub distinct : IsDistinct g.nodes
  pub sealed : g.is_open ≡ false
  pub base : g.base ≡ length g.nodes

-- the axioms by which a search goes
abbrev pub axioms_of : Search → List Axiom
axioms_of s = map axiom_seen s.table.now

-- this was seen before its last round, which joined the sides of each match that was seen
abbrev pub WasLast : Search → Last → Type 0
WasLast s l = (earlier : Graph) × WasSeen earlier s.graph s.classes.numbers s.endings.items (axioms_of s) (look_in l) × EachStands s.graph s.classes.numbers (axioms_of s) l.list.items

-- the search began with the least graph g and has made k rounds, by its axioms
pub record IsSearch (g : Graph) (k : ℕ) (s : Search) : Type 0 where
  pub least : IsLeastGraph g
  pub table_ : AreAxioms (axioms_of s)
  pub graph_ : IsGraph s.graph
  pub apart : IsDistinct s.graph.nodes
  pub grown : Extends g s.graph
  pub base : s.graph.base ≡ g.base
  pub sealed : s.graph.is_open ≡ false
  pub marks_ : AreNodeMarks g s.endings.items s.marks.items
  pub knows : Knows s.graph.nodes s.classes
  pub classes_ : IsClasses s.classes
  pub sorts : JoinedHaveOneSort s.graph (OneClass s.classes.numbers)
  pub reached : Reached g s.endings.items (axioms_of s) k s.graph s.classes.numbers
  pub last_ : IfSome s.last (WasLast s)

-- .. with some least graph, and some rounds
abbrev pub IsBegun : Search → Type 0
IsBegun s = (g : Graph) × (k : ℕ) × IsSearch g k s

-- it has made no round: its classes are new ones, closed with all inductions
pub record Begins (g : Graph) (table : List Axiom) (endings : List ℕ) (budget : ℕ) (s : Search) : Type 0 where
  pub is : IsSearch g zero s
  pub first : Classes
  pub found : Bool
  pub fresh : IsNew s.graph.nodes first
  pub inducts : Inducts s.graph.nodes first s.classes found
  pub table_ : axioms_of s ≡ table
  pub endings_ : s.endings.items ≡ endings
  pub budget_ : s.budget ≡ budget

-- ---- what there is to do

-- it has at least n matches
abbrev pub HasMatches : Search → ℕ → Type 0
HasMatches s n = AtLeastAt (base_view s.graph) s.endings.items (axioms_of s) s.graph s.classes.numbers n

-- it has more than its budget
abbrev pub IsOver : Search → Type 0
IsOver s = HasMatches s (suc s.budget)

-- none of its matches joins more
abbrev pub IsSaturatedNow : Search → Type 0
IsSaturatedNow s = IsSaturatedAt (base_view s.graph) s.endings.items (axioms_of s) s.graph s.classes.numbers

-- what is seen of it: there are more matches than the budget; or none joins more; or this list has them all, and some joins more
abbrev pub Looks : Search → Looked → Type 0
Looks s (Over n) = (n ≡ suc s.budget) × IsOver s
Looks s Saturated = (IsOver s → ⊥) × IsSaturatedNow s
Looks s (Open list) = (IsOver s → ⊥) × (IsSaturatedNow s → ⊥) × AreAllMatches s.graph s.classes.numbers s.endings.items (axioms_of s) list.items

-- ---- a round

-- what a round does to a graph and its classes, where these nodes are assumed to end: instances of some matches are added, the classes take up the new nodes, the two sides of
-- each instance are joined, and then all that congruence and inductions join
pub record MakesRound (old new : Graph) (assumed : List ℕ) (begun closed : Classes) : Type 0 where
  pub seen : Graph
  pub numbers : List ℕ
  pub matches : List (Match ℕ)
  pub owed : List Owed
  pub grown : Classes
  pub joined : Classes
  pub found : Bool
  pub adds : AddsAll seen old new numbers assumed matches owed
  pub grows : Grows new.nodes begun grown
  pub joins : JoinsAll grown joined owed
  pub inducts : Inducts new.nodes joined closed found

-- it stands one round further on
pub record GoesOn (old new : Search) : Type 0 where
  pub next : (g : Graph) (k : ℕ) → IsSearch g k old → IsSearch g (suc k) new
  pub table_ : axioms_of new ≡ axioms_of old
  pub endings_ : new.endings.items ≡ old.endings.items
  pub budget_ : new.budget ≡ old.budget
