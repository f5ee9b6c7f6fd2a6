use Rattle.std.proofs.Common.{◌≡◌, length}
use Rattle.pv_frame.proofs.Words.{popped, same}
use Rattle.pv_frame.proofs.StackSteps.{rest_of}
use Rattle.pv_frame.proofs.stack.below.Given as goal

abbrev pub invariant-loop-asked : goal.invariant-loop-asked
invariant-loop-asked l = rest_of (popped same l.asked l.rest) ≡ rest_of (popped same l.sorts l.stack)

abbrev pub decreases-loop-asked : goal.decreases-loop-asked
decreases-loop-asked l = length l.asked
