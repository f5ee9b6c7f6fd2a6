use Rattle.pv_loops.proofs.Leading.{Walked}
use Rattle.pv_loops.proofs.outwards.row_outwards.Given as goal

abbrev pub invariant-loop : goal.invariant-loop
invariant-loop l = Walked l.loops l.fn.home l.counter l.row.items l.at
