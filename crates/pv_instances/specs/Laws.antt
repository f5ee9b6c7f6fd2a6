-- The law of the axioms' sorts.
use Rattle.std.specs.Prelude.{◌≡◌, List, length, Some}
use Rattle.std.specs.List.{AllByRecursion}
use Rattle.pv_graph.specs.declared.node.OpSort.{OpSort}
use Rattle.pv_pattern.specs.Patterns.{Axiom}
use Rattle.pv_heights.specs.Filled.{Params, Filled, filled}
use Rattle.pv_instances.specs.Sorted.{IsSorted}

-- whatever the names stand for and whatever sorts the kids and variables have: where the left side, filled in, has a sort, the right
-- side can be filled in and has it too
abbrev pub KeepsSort : Axiom → Type 0
KeepsSort a = (m : Params) (kids vars : List OpSort) (left : Filled) (s : OpSort) → filled m (length kids) a.left ≡ Some left → IsSorted kids vars left s
    → (right : Filled) × (filled m (length kids) a.right ≡ Some right) × IsSorted kids vars right s

-- each axiom of the table does
abbrev pub KeepSorts : List Axiom → Type 0
KeepSorts table = AllByRecursion KeepsSort table
