use Rattle.std.proofs.Common.{◌<◌, Some, length, refl, sym, ap, ◌∙◌, subst, arith}
use Rattle.pv_frame.proofs.Words.{slice_get_read, err_from_is_err_and, Frame, Flows}
use Rattle.pv_frame.proofs.FrameLaws.{some_of}
use Rattle.pv_frame.proofs.Edges.{follows_same, follows_set, clashes_past, clash_answers}
use Rattle.pv_frame.proofs.spreading.follow.Goals as goal
use Rattle.pv_frame.proofs.spreading.follow.Goals.{in-Some+else-flows, in_default}

pub returns-then-index-len : goal.returns-then-index-len
returns-then-index-len c = clashes_past c.args.frames.now.items c.args.source.now c.args.place (omega (arith, c.len.ensures))

pub returns-then-flows : goal.returns-then-flows
returns-then-flows c =
    let within : c.args.place < length c.args.frames.now.items = omega (arith, c.len.ensures) in
    let at = slice_get_read c.args.frames.now.items (length c.args.frames.now.items) c.args.place c.index-slot.result.now refl within c.index-slot.ensures in
    follows_same c.args.frames.now.items c.args.work.now.items c.args.source.now c.in-Some.target c.args.place c.requires (at ∙ ap Some c.in-Some.is) (c.flows.ensures.0 c.if-flows.true)

pub returns-in_err-next : goal.returns-in_err-next
returns-in_err-next c =
    let within : c.args.place < length c.args.frames.now.items = omega (arith, c.len.ensures) in
    let at = slice_get_read c.args.frames.now.items (length c.args.frames.now.items) c.args.place c.index-slot.result.now refl within c.index-slot.ensures in
    let p = err_from_is_err_and c.from_residual.result c.from_residual.ensures.1 in
    rw (p.1, p.2) (clash_answers c.args.frames.now.items c.args.source.now c.index-slot.result.now c.args.place c.in_err-next.field-0.0 _ _ at c.in_err-next.ensures)

pub returns : goal.returns
returns c =
    let within : c.args.place < length c.args.frames.now.items = omega (arith, c.len.ensures) in
    let at = slice_get_read c.args.frames.now.items (length c.args.frames.now.items) c.args.place c.index-slot.result.now refl within c.index-slot.ensures in
    rw (c.in_ok-push.ensures.items, c.in_ok-next.ensures.1)
    (follows_set c.args.frames.now.items c.args.work.now.items c.args.source.now c.index-slot.result.now c.args.place c.requires at c.in_ok-next.ensures.0
    (elim c.match-slot.branch [
      | in-Some+else-flows w ↦ λ f is flows.
          let same = some_of f w.in-Some.target (sym is ∙ w.in-Some.is) in
          let yes = w.flows.ensures.1 (subst (λ (x : Frame). Flows c.args.source.now x) same flows) in
          absurd (cc (yes, w.if-flows.false))
      | in_default w ↦ λ f is flows. w.in_default.not-Some f is
    ]))
