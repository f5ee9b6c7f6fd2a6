use Rattle.pv_lemmas.proofs.Starting.{HaveUpTo}
use Rattle.pv_lemmas.proofs.vars.have_sorts.Given as goal

abbrev pub invariant-loop-k : goal.invariant-loop-k
invariant-loop-k l = HaveUpTo l.graph.sorts l.nodes l.vars l.k
