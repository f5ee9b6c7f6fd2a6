use Rattle.std.proofs.Common.{◌≡◌, ◌++◌, length}
use Rattle.pv_frame.specs.Inferring.{met}
use Rattle.pv_frame.proofs.flow.met.Given as goal

abbrev pub invariant-loop-left : goal.invariant-loop-left
invariant-loop-left l = l.both.items ++ met l.left l.others ≡ met l.source l.target

abbrev pub decreases-loop-left : goal.decreases-loop-left
decreases-loop-left l = length l.left
