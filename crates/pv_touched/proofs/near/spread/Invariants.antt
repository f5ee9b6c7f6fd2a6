use Rattle.std.proofs.Common.{◌≡◌, length}
use Rattle.pv_touched.specs.Far.{SpreadsBelow}
use Rattle.pv_touched.proofs.near.spread.Given as goal

abbrev pub invariant-loop-n : goal.invariant-loop-n
invariant-loop-n l = record { long : length l.next.items ≡ length l.graph.nodes; spreads : SpreadsBelow l.n l.graph l.numbers l.near l.next.items }
