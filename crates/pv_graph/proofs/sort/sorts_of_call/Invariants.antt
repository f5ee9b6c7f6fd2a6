use Rattle.std.proofs.Common.{◌≡◌, ◌∷◌, List, Some, take}
use Rattle.pv_graph.specs.declared.node.OpSort.{OpSort}
use Rattle.pv_graph.specs.declared.node.OpSort.TheVariants.{H}
use Rattle.pv_graph.specs.Ops.{type_sorts}
use Rattle.pv_graph.proofs.sort.sorts_of_call.Given as goal

abbrev pub invariant-loop-t : goal.invariant-loop-t
invariant-loop-t l = (ss : List OpSort) × (type_sorts (take l.t-index l.params) ≡ Some ss) × (l.kids.items ≡ H ∷ ss)
