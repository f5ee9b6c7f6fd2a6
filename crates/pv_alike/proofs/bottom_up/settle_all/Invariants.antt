use Rattle.std.proofs.Common.{take}
use Rattle.pv_alike.specs.BottomUp.{Settles}
use Rattle.pv_alike.proofs.bottom_up.settle_all.Given as goal

abbrev pub invariant-loop-n : goal.invariant-loop-n
invariant-loop-n l = Settles l.g.nodes l.initial.order l.order l.initial.waiting l.waiting (take l.n-index l.ns)
