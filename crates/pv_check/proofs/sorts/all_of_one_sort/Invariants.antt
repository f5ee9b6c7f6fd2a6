use Rattle.std.proofs.Common.{◌↔◌, drop}
use Rattle.std.specs.List.{AllByRecursion}
use Rattle.pv_steps.specs.Right.{AreOfOneSort}
use Rattle.pv_check.proofs.sorts.all_of_one_sort.Given as goal

abbrev pub invariant-loop-pair : goal.invariant-loop-pair
invariant-loop-pair l = AllByRecursion (AreOfOneSort l.graph) l.pairs ↔ AllByRecursion (AreOfOneSort l.graph) (drop l.pair-index l.pairs)
