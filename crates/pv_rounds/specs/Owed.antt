-- The instances that a round adds for its matches. Here h has the nodes with class numbers; from the old graph it grew to the new one.
use Rattle.std.specs.Prelude.{◌≡◌, ◌⊎◌, ℕ, ◌≤◌, List, length, slice_get}
use Rattle.std.specs.List.{AllZip}
use Rattle.pv_graph.specs.Walks.{In}
use Rattle.pv_graph.specs.Graphs.{Graph, form_at, IsGraph, Extends}
use Rattle.pv_graph.specs.Calls.{IsDistinct}
use Rattle.pv_axioms.specs.Entries.{axioms, Instance}
use Rattle.pv_heights.specs.Sides.{Match}
use Rattle.pv_heights.specs.Rounds.{IsInstanceOf, IsMadePart}
use Rattle.pv_heights.specs.Searches.{nodes, IsNode, OneClass, IsMatchAt}
use Rattle.pv_instances.specs.Made.{GrowsBy, KeepsDistinct}
use Rattle.pv_witness.specs.Witnesses.{IsCopied}
use Rattle.pv_rounds.specs.declared.owed.Owed.{Owed}
use Rattle.pv_rounds.specs.declared.tables.AllWitnesses.{AllWitnesses}
use Rattle.pv_rounds.specs.Tables.{AreTables}

-- each of these is a match over the nodes of h, where the least graph is one from which h grew
pub record AreMatches (h : Graph) (numbers assumed : List ℕ) (ms : List (Match ℕ)) : Type 0 where
  pub least : Graph
  pub graph : IsGraph least
  pub extends_ : Extends least h
  pub few : length least.nodes ≤ length numbers
  pub each : (m : Match ℕ) → In ms m → IsMatchAt (form_at least.nodes) assumed axioms h numbers m

-- a match of them, and tables of witnesses for all, in a graph of which no two nodes are the same
pub record CanAdd (h g : Graph) (numbers assumed : List ℕ) (ms : List (Match ℕ)) (m : Match ℕ) (w : AllWitnesses) : Type 0 where
  pub distinct : IsDistinct g.nodes
  pub matches : AreMatches h numbers assumed ms
  pub is : In ms m
  pub tables : AreTables h g numbers assumed ms w

-- a join that a round owes for a match: its nodes are the two sides of an instance of the match, over a copy of a node of each of its
-- classes, and the sides of an instance of its axiom over these nodes; they have one sort
pub record IsOwed (h g : Graph) (numbers assumed : List ℕ) (m : Match ℕ) (o : Owed) : Type 0 where
  pub instance_ : IsInstanceOf (nodes g) (IsNode h) (OneClass numbers) (IsNode g) m o.left o.right
  pub sides : Instance g assumed o.axiom o.subst.items o.left o.right
  pub within : (k : ℕ) → In o.subst.items k → IsNode g k
  pub one_sort : slice_get g.sorts o.left ≡ slice_get g.sorts o.right
  pub left : IsNode g o.left
  pub right : IsNode g o.right

-- n is a part of a side of the match
abbrev pub IsOfMatch : Graph → Graph → List ℕ → Match ℕ → ℕ → Type 0
IsOfMatch h g numbers m n = IsMadePart (nodes g) (IsNode h) (OneClass numbers) (IsNode g) m n

-- the join of one match; each new node is a part of one of its sides
pub record AddsOne (h old new : Graph) (numbers assumed : List ℕ) (m : Match ℕ) (o : Owed) : Type 0 where
  pub grows : GrowsBy old new (IsOfMatch h new numbers m)
  pub distinct : KeepsDistinct old new
  pub is : IsOwed h new numbers assumed m o

-- a node that a round makes: a part of a side of one of its matches, or a copy of a node
abbrev pub IsOfRound : Graph → Graph → List ℕ → List (Match ℕ) → ℕ → Type 0
IsOfRound h g numbers ms n = ((m : Match ℕ) × In ms m × IsOfMatch h g numbers m n) ⊎ IsCopied h g numbers n

-- the joins of all matches, one for each
pub record AddsAll (h old new : Graph) (numbers assumed : List ℕ) (ms : List (Match ℕ)) (owed : List Owed) : Type 0 where
  pub grows : GrowsBy old new (IsOfRound h new numbers ms)
  pub distinct : KeepsDistinct old new
  pub joins : AllZip (IsOwed h new numbers assumed) ms owed
