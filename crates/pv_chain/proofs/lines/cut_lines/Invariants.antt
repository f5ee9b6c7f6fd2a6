use Rattle.pv_chain.proofs.LineSteps.{CutOff}
use Rattle.pv_chain.proofs.lines.cut_lines.Given as goal

abbrev pub invariant-loop-k : goal.invariant-loop-k
invariant-loop-k l = CutOff l.count l._k l.text l.rest
