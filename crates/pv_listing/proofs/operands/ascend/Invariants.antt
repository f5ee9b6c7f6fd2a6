use Rattle.std.proofs.Common.{◌≡◌, length}
use Rattle.pv_listing.specs.Operands.{ascend}
use Rattle.pv_listing.proofs.operands.ascend.Given as goal

abbrev pub invariant-loop-rest : goal.invariant-loop-rest
invariant-loop-rest l = ascend l.rest ≡ ascend l.pairs

abbrev pub decreases-loop-rest : goal.decreases-loop-rest
decreases-loop-rest l = length l.rest
