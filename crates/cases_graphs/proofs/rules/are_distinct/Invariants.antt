use Rattle.cases_graphs.proofs.Cycles.{DifferBelow}
use Rattle.cases_graphs.proofs.rules.are_distinct.Given as goal

abbrev pub invariant-loop-n : goal.invariant-loop-n
invariant-loop-n l = DifferBelow l.nodes l.n
