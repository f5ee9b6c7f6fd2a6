use Rattle.pv_alike.proofs.Visiting.{IsVisiting, left}
use Rattle.pv_alike.proofs.visit.visited.Given as goal

abbrev pub invariant-loop-n : goal.invariant-loop-n
invariant-loop-n l = IsVisiting l.nodes l.first l.second l.order l.stack.items

abbrev pub decreases-loop-n : goal.decreases-loop-n
decreases-loop-n l = left l.nodes l.order l.stack.items
