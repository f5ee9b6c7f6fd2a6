-- When matches that are known from before may be taken over. The classes of a known match are nodes: each is replaced by the class of now
-- that holds it.
use Rattle.std.specs.Prelude.{◌≡◌, ◌⊎◌, ℕ, ◌<◌, List, [], map, length}
use Rattle.pv_graph.specs.Walks.{In}
use Rattle.pv_graph.specs.Graphs.{Graph}
use Rattle.pv_pattern.specs.Patterns.{Axiom}
use Rattle.pv_marks.specs.Classes.{class_of}
use Rattle.pv_match.specs.declared.found.Param.{Param}
use Rattle.pv_match.specs.declared.found.Match.{Match}
use Rattle.pv_heights.specs.SameClasses.{IsCongruence}
use Rattle.pv_heights.specs.Searches.{nodes, IsNode, OneClass, base_view}
use Rattle.pv_match.specs.Matches.{IsMatch, IsMatchAt}
use Rattle.pv_match.specs.Reading.{AreReadable}
use Rattle.pv_match.specs.Agreeing.{AreLeast}
use Rattle.pv_match.specs.AllMatches.{AreAllMatches}

-- the match of an axiom is a known one
abbrev pub IsKnown : List ℕ → List Match → Axiom → List Param → List ℕ → Type 0
IsKnown numbers known a params classes = (x : Match) × In known x × (x.axiom ≡ a.number) × (x.params.items ≡ params) × (map (class_of numbers) x.classes.items ≡ classes)

-- its left side starts at one of these nodes
abbrev pub StartsAmong : Graph → List ℕ → List ℕ → List ℕ → Axiom → List Param → List ℕ → Type 0
StartsAmong g numbers assumed touched a params classes = (n : ℕ) × In touched n × IsMatchAt g numbers assumed a n params classes

-- each known match is one still, and a match whose left side starts at none of the touched nodes is a known one
pub record CanTakeOver (g : Graph) (numbers assumed : List ℕ) (table : List Axiom) (known : List Match) (touched : List ℕ) : Type 0 where
  pub stay : (x : Match) → In known x → (a : Axiom) × In table a × (x.axiom ≡ a.number) × IsMatch g numbers assumed a x.params.items (map (class_of numbers) x.classes.items)
  pub rest : (a : Axiom) (params : List Param) (classes : List ℕ) → In table a → IsMatch g numbers assumed a params classes → StartsAmong g numbers assumed touched a params classes ⊎ IsKnown numbers known a params classes

-- these are all matches, over nodes of the graph: where nothing was touched, they can be taken over
pub record AreKnown (g : Graph) (numbers assumed : List ℕ) (table : List Axiom) (known : List Match) : Type 0 where
  pub within : (x : Match) (c : ℕ) → In known x → In x.classes.items c → c < length g.nodes
  pub over_ : CanTakeOver g numbers assumed table known []

-- ---- laws

-- a list of all matches can be taken over while nothing is touched
abbrev pub AllKnown : Type 0
AllKnown = (g : Graph) (numbers assumed : List ℕ) (table : List Axiom) (known : List Match) → AreLeast g numbers → IsCongruence (base_view g) (nodes g) (IsNode g) (OneClass numbers) → AreReadable table
    → AreAllMatches g numbers assumed table known → AreKnown g numbers assumed table known

-- ---- what is found

-- y is x, with the class of now for each of its classes
pub record IsRenumbered (numbers : List ℕ) (x y : Match) : Type 0 where
  pub number : y.axiom ≡ x.axiom
  pub params : y.params.items ≡ x.params.items
  pub classes : y.classes.items ≡ map (class_of numbers) x.classes.items

-- each of a list, so
pub record AreRenumbered (numbers : List ℕ) (known new : List Match) : Type 0 where
  pub each : (y : Match) → In new y → (x : Match) × In known x × IsRenumbered numbers x y
  pub all : (x : Match) → In known x → (y : Match) × In new y × IsRenumbered numbers x y
