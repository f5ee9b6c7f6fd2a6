use Rattle.std.proofs.Common.{ℕ, subst, drop, Some, arith}
use Rattle.pv_machine.proofs.Words.{sort_of, taken_by, IsTaken}
use Rattle.pv_machine.proofs.Moving.{overfull}
use Rattle.pv_machine.proofs.moves.copied.Goals as goal

pub returns-in_err-reserve-clause-full : goal.returns-in_err-reserve-clause-full
returns-in_err-reserve-clause-full c =
    let nums = c.args.stack.now.nums in
    let next = subst (λ (n : ℕ). IsTaken (taken_by sort_of c.args.under (drop n nums)) (drop n nums) (Some c.in-Some-taken.next)) c.size.ensures c.in-Some-taken.ensures in
    let lack = c.in_err-reserve.ensures.full in
    overfull _ c.args.above c.args.under nums c.args.stack.now.room c.in-Some.top c.in-Some-taken.next c.in-Some.ensures next (omega (arith, lack))
