-- Matches whose sides stand in one class already.
use Rattle.std.specs.Prelude.{ℕ, List}
use Rattle.std.specs.List.{AllByRecursion}
use Rattle.pv_graph.specs.Walks.{In}
use Rattle.pv_graph.specs.Graphs.{Graph}
use Rattle.pv_heights.specs.Sides.{Match}
use Rattle.pv_heights.specs.Searches.{nodes, IsNode, OneClass, BothStand}

-- both sides of each match stand in one class
abbrev pub AllStand : Graph → List ℕ → List (Match ℕ) → Type 0
AllStand g numbers ms = (m : Match ℕ) → In ms m → BothStand (nodes g) (IsNode g) (OneClass numbers) m

-- each match is over nodes of the graph
abbrev pub AreOver : Graph → List (Match ℕ) → Type 0
AreOver g ms = (m : Match ℕ) → In ms m → AllByRecursion (IsNode g) m.kids × AllByRecursion (IsNode g) m.vars
