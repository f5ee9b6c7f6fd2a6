use Rattle.std.proofs.Common.{◌≡◌, length, reverse}
use Rattle.pv_machine.proofs.Words.{lie_on}
use Rattle.pv_machine.proofs.stack.lie_on.Given as goal

abbrev pub invariant-loop-asked : goal.invariant-loop-asked
invariant-loop-asked l = lie_on (reverse l.asked) (reverse l.rest) ≡ lie_on (reverse l.sorts) (reverse l.nums)

abbrev pub decreases-loop-asked : goal.decreases-loop-asked
decreases-loop-asked l = length l.asked
