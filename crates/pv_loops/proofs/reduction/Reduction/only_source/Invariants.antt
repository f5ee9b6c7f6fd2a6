use Rattle.pv_loops.proofs.Sweeping.{FoundSoFar}
use Rattle.pv_loops.proofs.reduction.Reduction.only_source.Given as goal

abbrev pub invariant-loop-x : goal.invariant-loop-x
invariant-loop-x l = FoundSoFar l.groups l.sources l.n l.x-index l.only
