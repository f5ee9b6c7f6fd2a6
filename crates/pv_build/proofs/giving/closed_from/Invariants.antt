use Rattle.pv_build.proofs.Climbing.{Climbed}
use Rattle.pv_build.proofs.giving.closed_from.Given as goal

abbrev pub invariant-loop-i : goal.invariant-loop-i
invariant-loop-i l = Climbed l.method l.made l.at l.b l.i-index l.left.items
