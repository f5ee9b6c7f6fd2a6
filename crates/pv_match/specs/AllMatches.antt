-- What `matches` answers.
use Rattle.std.specs.Prelude.{◌≡◌, ℕ, suc, ◌≤◌, List, ◌++◌, length}
use Rattle.std.specs.List.{AllZip}
use Rattle.std.specs.List.Sorted.{IsStrictlySortedBy}
use Rattle.pv_graph.specs.Graphs.{Graph}
use Rattle.pv_pattern.specs.Patterns.{Axiom}
use Rattle.pv_axioms.specs.Entries.{axioms}
use Rattle.pv_heights.specs.Filled.{named}
use Rattle.pv_heights.specs.Sides as sides
use Rattle.pv_heights.specs.Searches.{base_view, AreAllAt, AtLeastAt}
use Rattle.pv_match.specs.declared.found.Match.{Match}
use Rattle.pv_match.specs.declared.found.Matches as answers
use Rattle.pv_match.specs.declared.found.Matches.TheVariants.{All, More}
use Rattle.pv_match.specs.Parameters.{params_of}
use Rattle.pv_match.specs.Orders.{match_cmp}
use Rattle.pv_match.specs.Reading.{AreReadable}

-- the program has the match m as x: by the number of its axiom, its parameters, and a node of each of its classes
pub record Shows (x : Match) (m : sides.Match ℕ) : Type 0 where
  pub number : x.axiom ≡ m.entry.number
  pub params : x.params.items ≡ params_of (named m.params) m.entry.left
  pub classes : x.classes.items ≡ m.kids ++ m.vars

-- the list has all matches, each once, in the order of axioms, parameters and classes
pub record AreAllMatches (g : Graph) (numbers assumed : List ℕ) (table : List Axiom) (list : List Match) : Type 0 where
  pub matches : List (sides.Match ℕ)
  pub shown : AllZip Shows list matches
  pub all : AreAllAt (base_view g) assumed table g numbers matches
  pub ordered : IsStrictlySortedBy match_cmp list

-- all matches, which are no more than the limit; or that there are more
abbrev pub IsAnswer : Graph → List ℕ → List ℕ → List Axiom → ℕ → answers.Matches → Type 0
IsAnswer g numbers assumed table limit (All list) = AreAllMatches g numbers assumed table list.items × (length list.items ≤ limit)
IsAnswer g numbers assumed table limit (More n) = (n ≡ suc limit) × AtLeastAt (base_view g) assumed table g numbers n

-- the axioms of all tables are read
abbrev pub TableIsReadable : Type 0
TableIsReadable = AreReadable axioms
