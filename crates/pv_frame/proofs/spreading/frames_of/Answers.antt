use Rattle.std.proofs.Common.{ℕ, List, length, ap, subst, arith}
use Rattle.pv_frame.proofs.Words.{err_from_is_err_and, Inferring}
use Rattle.pv_frame.proofs.InferenceLaws.{start_answers, start_follows, next_waits, inferred}
use Rattle.pv_frame.proofs.spreading.frames_of.Goals as goal

pub returns-in_err-follow : goal.returns-in_err-follow
returns-in_err-follow c =
    let p = err_from_is_err_and c.from_residual-in_err-follow.result c.from_residual-in_err-follow.ensures.1 in
    rw (p.1, p.2) (start_answers c.args.program.now (length c.as_slice.result.now) c.in_ok-frames.frames.items c.in_ok-entry.entry c.in_err-follow.field-0.0 _ _ c.in_ok-frames.ensures (ap length c.as_slice.ensures) c.in_ok-entry.ensures.1 c.in_err-follow.ensures)

pub loop-place-init : goal.loop-place-init
loop-place-init c =
    start_follows c.args.program.now (length c.as_slice.result.now) c.in_ok-frames.frames.items c.follow.new.frames.items c.new-work.result.items c.follow.new.work.items c.in_ok-entry.entry c.in_ok-frames.ensures (ap length c.as_slice.ensures) c.new-work.ensures.items c.in_ok-entry.ensures c.in_ok-follow.ensures

pub visit-requires-clause-inferring : goal.visit-requires-clause-inferring
visit-requires-clause-inferring c =
    next_waits c.args.program.now c.loop-place.frames.items c.pop.new.self.items c.in-Some.place (subst (λ (w : List ℕ). Inferring c.args.program.now c.loop-place.frames.items w) c.in-Some.ensures.items c.loop-place.invariant)

pub returns : goal.returns
returns c = inferred c.args.program.now c.loop-place.frames.items c.loop-place.work.items (omega (arith, c.in_default.ensures.cases.0)) c.loop-place.invariant
