-- The matches of a table whose left sides start at some nodes, and all its matches.
use Rattle.std.specs.Prelude.{◌≡◌, ◌↔◌, ℕ, ◌<◌, List, ◌++◌, length}
use Rattle.pv_graph.specs.Walks.{In}
use Rattle.pv_graph.specs.Graphs.{Graph}
use Rattle.pv_pattern.specs.Patterns.{Axiom}
use Rattle.pv_match.specs.declared.found.Param.{Param}
use Rattle.pv_match.specs.declared.found.Match.{Match}
use Rattle.pv_match.specs.Matches.{IsMatch, IsMatchAt}
use Rattle.pv_match.specs.Reading.{IsReadable}

-- the list has exactly the matches of the axioms at the nodes of which P holds
pub record AreMatchesWhere (g : Graph) (numbers assumed : List ℕ) (P : Axiom → ℕ → Type 0) (list : List Match) : Type 0 where
  pub each : (x : Match) → In list x → (a : Axiom) × (n : ℕ) × P a n × (x.axiom ≡ a.number) × IsMatchAt g numbers assumed a n x.params.items x.classes.items
  pub all : (a : Axiom) (n : ℕ) (params : List Param) (classes : List ℕ) → P a n → IsMatchAt g numbers assumed a n params classes → (x : Match) × In list x × (x.axiom ≡ a.number) × (x.params.items ≡ params) × (x.classes.items ≡ classes)

-- .. of the axioms of a table, at these nodes
abbrev pub AreMatchesOf : Graph → List ℕ → List ℕ → List Axiom → List ℕ → List Match → Type 0
AreMatchesOf g numbers assumed table items list = AreMatchesWhere g numbers assumed (λ a n. In table a × In items n) list

-- ---- laws

-- a match of an axiom is one that starts at some node
abbrev pub Starts : Type 0
Starts = (g : Graph) (numbers assumed : List ℕ) (a : Axiom) (params : List Param) (classes : List ℕ) → IsReadable a
    → IsMatch g numbers assumed a params classes ↔ ((n : ℕ) × (n < length g.nodes) × IsMatchAt g numbers assumed a n params classes)

-- the lists of two pieces, one after the other, are the list of both
abbrev pub Pieces : Type 0
Pieces = (g : Graph) (numbers assumed : List ℕ) (table : List Axiom) (first second : List ℕ) (xs ys : List Match)
    → AreMatchesOf g numbers assumed table first xs → AreMatchesOf g numbers assumed table second ys → AreMatchesOf g numbers assumed table (first ++ second) (xs ++ ys)
