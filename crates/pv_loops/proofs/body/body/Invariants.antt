use Rattle.std.proofs.Common.{length, ◌-◌}
use Rattle.pv_loops.proofs.Gathering.{Gathering}
use Rattle.pv_loops.proofs.body.body.Given as goal

abbrev pub invariant-loop-next : goal.invariant-loop-next
invariant-loop-next l = Gathering l.sources l.order.place.items l.h l.i l.next l.fn.home l.home l.members.items

abbrev pub decreases-loop-next : goal.decreases-loop-next
decreases-loop-next l = length l.sources - l.next
