use Rattle.pv_prove.specs.Looking.{StandAt}
use Rattle.pv_prove.proofs.found.hunt.Given as goal

abbrev pub invariant-loop-k : goal.invariant-loop-k
invariant-loop-k g l = StandAt l.least l.limits l.k l.searches
