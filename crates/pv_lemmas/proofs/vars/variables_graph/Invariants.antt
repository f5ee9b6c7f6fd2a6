use Rattle.std.proofs.Common.{take}
use Rattle.pv_lemmas.proofs.Starting.{IsStarted}
use Rattle.pv_lemmas.proofs.vars.variables_graph.Given as goal

abbrev pub invariant-loop-var : goal.invariant-loop-var
invariant-loop-var l = IsStarted (take l.var-index l.vars) l.graph
