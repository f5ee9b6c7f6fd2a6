use Rattle.std.proofs.Common.{◌≡◌, length}
use Rattle.pv_touched.specs.Far.{StayedBelow}
use Rattle.pv_touched.proofs.changed.changed.Given as goal

abbrev pub invariant-loop-n : goal.invariant-loop-n
invariant-loop-n l = record { long : length l.changed.items ≡ length l.since.numbers.now; stayed : StayedBelow l.n l.since l.changed.items }
