use Rattle.pv_loops.proofs.Singles.{AreSingles}
use Rattle.pv_loops.proofs.groups.Groups.single.Given as goal

abbrev pub invariant-loop-n : goal.invariant-loop-n
invariant-loop-n l = AreSingles l.groups.leader.items l.groups.place.items l.groups.members l.count l.n
