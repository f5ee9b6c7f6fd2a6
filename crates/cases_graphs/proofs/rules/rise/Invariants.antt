use Rattle.cases_graphs.proofs.Cycles.{AllRise}
use Rattle.cases_graphs.proofs.rules.rise.Given as goal

abbrev pub invariant-loop-n : goal.invariant-loop-n
invariant-loop-n l = AllRise l.nodes l.n
