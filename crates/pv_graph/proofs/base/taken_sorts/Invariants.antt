use Rattle.std.proofs.Common.{take}
use Rattle.pv_graph.specs.Base.{AreTaken, value_sorts}
use Rattle.pv_graph.proofs.base.taken_sorts.Given as goal

abbrev pub invariant-loop-sort : goal.invariant-loop-sort
invariant-loop-sort l = AreTaken l.nodes (take l.sort-index value_sorts) l.sorts.items
