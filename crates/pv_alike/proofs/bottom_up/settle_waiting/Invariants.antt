use Rattle.std.proofs.Common.{◌-◌, length}
use Rattle.pv_alike.specs.BottomUp.{IsSettling}
use Rattle.pv_alike.proofs.bottom_up.settle_waiting.Given as goal

abbrev pub invariant-loop-k : goal.invariant-loop-k
invariant-loop-k l = IsSettling l.g.nodes l.order l.waiting l.done

abbrev pub decreases-loop-k : goal.decreases-loop-k
decreases-loop-k l = length l.g.nodes - l.done
