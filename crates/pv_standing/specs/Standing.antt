-- In which class a side of an axiom stands. A class is named by one of its nodes.
use Rattle.std.specs.Prelude.{ℕ, List, Option, Some, None}
use Rattle.pv_graph.specs.Graphs.{Graph}
use Rattle.pv_pattern.specs.Patterns.{Pattern}
use Rattle.pv_heights.specs.Sides.{Match, StandsIn}
use Rattle.pv_heights.specs.Searches.{nodes, IsNode, OneClass}

-- the side, with its names filled in, stands in the class of this node
abbrev pub StandsAt : Graph → List ℕ → Match ℕ → Pattern → ℕ → Type 0
StandsAt g numbers m p c = StandsIn (nodes g) (IsNode g) (OneClass numbers) m p c

-- a node in whose class the side stands, or that there is none
abbrev pub IsClassOfSide : Graph → List ℕ → Match ℕ → Pattern → Option ℕ → Type 0
IsClassOfSide g numbers m p (Some c) = IsNode g c × StandsAt g numbers m p c
IsClassOfSide g numbers m p None = (t : ℕ) → IsNode g t → StandsAt g numbers m p t → ⊥
