use Rattle.std.proofs.Common.{◌≡◌, map, take, not}
use Rattle.pv_witness.proofs.marking.negated.Given as goal

abbrev pub invariant-loop-mark : goal.invariant-loop-mark
invariant-loop-mark l = l.negated.items ≡ map not (take l.mark-index l.marks)
