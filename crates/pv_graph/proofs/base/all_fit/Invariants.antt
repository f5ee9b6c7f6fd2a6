use Rattle.pv_graph.proofs.Basing.{FitBefore}
use Rattle.pv_graph.proofs.base.all_fit.Given as goal

abbrev pub invariant-loop-n : goal.invariant-loop-n
invariant-loop-n l = FitBefore l.nodes l.sorts.items l.n
