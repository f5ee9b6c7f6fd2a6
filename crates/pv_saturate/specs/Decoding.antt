-- A match as matching gives it, by the number of its axiom and a list of parameters, and the match that is decoded of it.
use Rattle.std.specs.Prelude.{◌≡◌, ℕ, List}
use Rattle.pv_graph.specs.Graphs.{Graph}
use Rattle.pv_graph.specs.Walks.{In}
use Rattle.pv_pattern.specs.declared.names.NameId.{NameId}
use Rattle.pv_pattern.specs.Patterns.{Axiom}
use Rattle.pv_pattern.specs.Seen.{axiom_seen}
use Rattle.pv_pattern.specs.Binding.{names}
use Rattle.pv_steps.specs.Facts.{View}
use Rattle.pv_heights.specs.Sides.{Match}
use Rattle.pv_heights.specs.Matches.{AgreeOn}
use Rattle.pv_heights.specs.Searches.{IsMatchAt}
use Rattle.pv_instances.specs.Seen.{params_seen}
use Rattle.pv_match.specs.declared.found.Match as found
use Rattle.pv_match.specs.AllMatches.{Shows}
use Rattle.pv_saturate.specs.declared.decoding.Decoded.{Decoded}

-- x shows h, which is a match of the table on some graph with class numbers
pub record IsShown (table : List Axiom) (x : found.Match) (h : Match ℕ) : Type 0 where
  pub shows : Shows x h
  pub view : View
  pub assumed : List ℕ
  pub graph : Graph
  pub numbers : List ℕ
  pub is : IsMatchAt view assumed table graph numbers h

-- x shows some match
abbrev pub ShowsMatch : List Axiom → found.Match → Type 0
ShowsMatch table x = (h : Match ℕ) × IsShown table x h

-- d is h but for what its left side doesn't name
pub record IsSameMatch (h d : Match ℕ) : Type 0 where
  pub entry : h.entry ≡ d.entry
  pub params : (i : NameId) → In (names h.entry.left) i → AgreeOn h.params d.params i
  pub kids : h.kids ≡ d.kids
  pub vars : h.vars ≡ d.vars

-- d is so each match that x shows
abbrev pub IsDecoded : List Axiom → found.Match → Match ℕ → Type 0
IsDecoded table x d = (h : Match ℕ) → IsShown table x h → IsSameMatch h d

-- what is decoded, as a match
abbrev pub decoded_seen : Decoded → Match ℕ
decoded_seen d = record { entry = axiom_seen d.entry.now; params = params_seen d.params; kids = d.kids.now; vars = d.vars.now }
