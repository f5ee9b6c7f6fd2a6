-- Classes of nodes that have one sort each, and the laws of their sorts.
use Rattle.std.specs.Prelude.{◌≡◌, ℕ, false, List, Some, slice_get}
use Rattle.std.specs.List.{AllByRecursion}
use Rattle.pv_graph.specs.declared.node.OpSort.{OpSort}
use Rattle.pv_graph.specs.Graphs.{Graph, IsGraph}
use Rattle.pv_heights.specs.Heights.{Nothing}
use Rattle.pv_heights.specs.Filled.{Filled}
use Rattle.pv_heights.specs.Sides.{Match, InClass}
use Rattle.pv_heights.specs.Searches.{nodes, IsNode, OneClass, Joining, AreJoined}
use Rattle.pv_instances.specs.Made.{SortedOver}

-- nodes that are joined have one sort
abbrev pub JoinedHaveOneSort : Graph → (ℕ → ℕ → Type 0) → Type 0
JoinedHaveOneSort g Joins = (a b : ℕ) → Joins a b → slice_get g.sorts a ≡ slice_get g.sorts b

-- where each class has one sort, a side that stands in a class over classes has the sort of that class
abbrev pub SidesHaveSorts : Type 0
SidesHaveSorts = (g : Graph) (numbers : List ℕ) (m : Match ℕ) (p : Filled) (t : ℕ) → IsGraph g → g.is_open ≡ false → JoinedHaveOneSort g (OneClass numbers)
    → AllByRecursion (IsNode g) m.kids → AllByRecursion (IsNode g) m.vars → IsNode g t → InClass (nodes g) (IsNode g) (OneClass numbers) m p t
    → (s : OpSort) × SortedOver g m p s × (slice_get g.sorts t ≡ Some s)

-- where pairs of one sort come to such classes, a closing with inductions keeps them so
abbrev pub ClosingKeepsSorts : Type 0
ClosingKeepsSorts = (g : Graph) (numbers after : List ℕ) (pairs : List (ℕ × ℕ)) → IsGraph g → g.is_open ≡ false → JoinedHaveOneSort g (Joining numbers pairs)
    → AreJoined g (Joining numbers pairs) after → JoinedHaveOneSort g (OneClass after)

-- the classes at the beginning are so
abbrev pub BeginningHasSorts : Type 0
BeginningHasSorts = (g : Graph) (after : List ℕ) → IsGraph g → g.is_open ≡ false → AreJoined g Nothing after → JoinedHaveOneSort g (OneClass after)
