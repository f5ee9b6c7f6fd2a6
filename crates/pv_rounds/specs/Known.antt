-- Matches that are known from the last round, and the others of a list.
use Rattle.std.specs.Prelude.{◌≡◌, ℕ, List, [], ◌∷◌, Option, Some, None}
use Rattle.std.specs.List.{AllZip}
use Rattle.pv_graph.specs.Walks.{In}
use Rattle.pv_graph.specs.Graphs.{Graph}
use Rattle.pv_pattern.specs.Patterns.{Axiom}
use Rattle.pv_heights.specs.Sides.{Match}
use Rattle.pv_heights.specs.Searches.{nodes, IsNode, OneClass, BothStand}
use Rattle.pv_match.specs.declared.found.Match as found
use Rattle.pv_match.specs.Orders.{AreOne}
use Rattle.pv_saturate.specs.Decoding.{IsDecoded}

-- one of the known matches is this one
abbrev pub IsKnown : List found.Match → found.Match → Type 0
IsKnown known x = (y : found.Match) × In known y × AreOne y x

-- ---- matches that are left out

-- both sides of the match stand in one class
abbrev pub StandsAt : Graph → List ℕ → Match ℕ → Type 0
StandsAt g numbers m = BothStand (nodes g) (IsNode g) (OneClass numbers) m

-- .. of one that was found
abbrev pub Stands : Graph → List ℕ → List Axiom → found.Match → Type 0
Stands g numbers table x = (d : Match ℕ) × IsDecoded table x d × StandsAt g numbers d

-- .. of each of a list
abbrev pub EachStands : Graph → List ℕ → List Axiom → List found.Match → Type 0
EachStands g numbers table list = (x : found.Match) → In list x → Stands g numbers table x

-- ---- the others

-- a known match is left out, and another one is decoded
abbrev pub IsLeft : List Axiom → List found.Match → found.Match → Option (Match ℕ) → Type 0
IsLeft table known x None = IsKnown known x
IsLeft table known x (Some d) = IsDecoded table x d

-- what isn't left out
abbrev pub others : List (Option (Match ℕ)) → List (Match ℕ)
others [] = []
others (None ∷ os) = others os
others (Some d ∷ os) = d ∷ others os

-- these are the matches of the list that aren't left out, decoded
pub record LeavesKnown (table : List Axiom) (known list : List found.Match) (new : List (Match ℕ)) : Type 0 where
  pub each : List (Option (Match ℕ))
  pub is : AllZip (IsLeft table known) list each
  pub are : new ≡ others each
