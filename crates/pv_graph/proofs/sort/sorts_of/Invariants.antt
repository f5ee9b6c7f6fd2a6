use Rattle.std.proofs.Common.{take}
use Rattle.pv_graph.specs.Ops.{HaveSorts}
use Rattle.pv_graph.proofs.sort.sorts_of.Given as goal

abbrev pub invariant-loop-kid : goal.invariant-loop-kid
invariant-loop-kid l = HaveSorts l.sorts.items (take l.kid-index l.kids) l.found.items
