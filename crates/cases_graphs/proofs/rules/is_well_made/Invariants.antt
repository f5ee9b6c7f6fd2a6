use Rattle.cases_graphs.proofs.Cycles.{AllFall}
use Rattle.cases_graphs.proofs.rules.is_well_made.Given as goal

abbrev pub invariant-loop-n : goal.invariant-loop-n
invariant-loop-n l = AllFall l.graph.nodes l.n
