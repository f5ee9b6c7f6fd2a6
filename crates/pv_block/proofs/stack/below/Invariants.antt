use Rattle.std.proofs.Common.{◌≡◌, length}
use Rattle.pv_block.proofs.Words.{popped, sort_in}
use Rattle.pv_block.proofs.Steps.{rest_of}
use Rattle.pv_block.proofs.stack.below.Given as goal

abbrev pub invariant-loop-asked : goal.invariant-loop-asked
invariant-loop-asked l = rest_of (popped sort_in l.asked l.rest) ≡ rest_of (popped sort_in l.sorts l.stack)

abbrev pub decreases-loop-asked : goal.decreases-loop-asked
decreases-loop-asked l = length l.asked
