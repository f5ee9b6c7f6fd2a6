use Rattle.pv_loops.proofs.Gathering.{Adding}
use Rattle.pv_loops.proofs.body.add_members.Given as goal

abbrev pub invariant-loop-x : goal.invariant-loop-x
invariant-loop-x l = Adding l.i l.place l.h l.nodes l.x-index l.initial.home l.home l.initial.members.items l.members.items
