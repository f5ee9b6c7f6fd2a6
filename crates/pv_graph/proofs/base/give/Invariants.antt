use Rattle.std.proofs.Common.{take}
use Rattle.pv_graph.specs.Base.{Gives}
use Rattle.pv_graph.proofs.base.give.Given as goal

abbrev pub invariant-loop-n : goal.invariant-loop-n
invariant-loop-n l = Gives l.sort (take l.n l.marks) l.initial.sorts.items l.sorts.items
