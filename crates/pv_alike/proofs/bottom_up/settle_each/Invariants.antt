use Rattle.std.specs.List.{range_with_len}
use Rattle.pv_alike.specs.BottomUp.{Settles}
use Rattle.pv_alike.proofs.bottom_up.settle_each.Given as goal

abbrev pub invariant-loop-n : goal.invariant-loop-n
invariant-loop-n l = Settles l.g.nodes l.initial.order l.order l.initial.waiting l.waiting (range_with_len 0 l.n)
