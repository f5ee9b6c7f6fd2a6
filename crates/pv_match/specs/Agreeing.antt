-- Class numbers as classes of nodes, and matches by class numbers with their axioms.
use Rattle.std.specs.Prelude.{◌≡◌, ℕ, ◌<◌, ◌≤◌, List, length, Some, slice_get}
use Rattle.pv_graph.specs.Walks.{In}
use Rattle.pv_graph.specs.Graphs.{Graph, IsGraph}
use Rattle.pv_pattern.specs.Patterns.{Axiom}
use Rattle.pv_marks.specs.Classes.{class_of}
use Rattle.pv_match.specs.declared.found.Param.{Param}
use Rattle.pv_match.specs.Matches.{IsMatch}

-- the number of a class is one of its nodes, and the least
pub record AreLeast (g : Graph) (numbers : List ℕ) : Type 0 where
  pub graph : IsGraph g
  pub long : length numbers ≡ length g.nodes
  pub low : (k : ℕ) → k < length g.nodes → class_of numbers k ≤ k
  pub least : (k : ℕ) → k < length g.nodes → class_of numbers (class_of numbers k) ≡ class_of numbers k

-- an axiom, parameters, and the number of a class for each kid of its family and for each variable
pub record Found : Type 0 where
  pub entry : Axiom
  pub params : List Param
  pub classes : List ℕ

-- a match of a table
abbrev pub IsFoundMatch : Graph → List ℕ → List ℕ → List Axiom → Found → Type 0
IsFoundMatch g numbers assumed table f = In table f.entry × IsMatch g numbers assumed f.entry f.params f.classes

-- matches, each once
pub record AreSomeFound (g : Graph) (numbers assumed : List ℕ) (table : List Axiom) (list : List Found) : Type 0 where
  pub each : (i : ℕ) (f : Found) → slice_get list i ≡ Some f → IsFoundMatch g numbers assumed table f
  pub once : (i j : ℕ) (f : Found) → slice_get list i ≡ Some f → slice_get list j ≡ Some f → i ≡ j

-- .. and all of them
pub record AreFound (g : Graph) (numbers assumed : List ℕ) (table : List Axiom) (list : List Found) : Type 0 where
  pub some_ : AreSomeFound g numbers assumed table list
  pub all : (f : Found) → IsFoundMatch g numbers assumed table f → (i : ℕ) × (slice_get list i ≡ Some f)
