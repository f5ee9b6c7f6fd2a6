use Rattle.std.proofs.lemmas.Result.{err_from_is_err_and}
use Rattle.pv_frame.proofs.Edges.{follows_none, follows_next, clashes_next}
use Rattle.pv_frame.proofs.spreading.follow_all.Goals as goal

pub loop-place-init : goal.loop-place-init
loop-place-init c = follows_none c.args.frames.now.items c.args.work.now.items c.args.source.now c.requires

pub returns-in_err-follow : goal.returns-in_err-follow
returns-in_err-follow c =
    let p = err_from_is_err_and c.from_residual.result c.from_residual.ensures.1 in
    rw (p.1, p.2) (clashes_next c.args.frames.now.items c.loop-place.frames.items c.args.work.now.items c.loop-place.work.items c.args.source.now c.args.places.now c.loop-place.place-index c.in_err-follow.field-0.0 _ _ c.loop-place-test.true c.loop-place.invariant c.in_err-follow.ensures)

pub loop-place-preserved : goal.loop-place-preserved
loop-place-preserved c =
    follows_next c.args.frames.now.items c.loop-place.frames.items c.follow.new.frames.items c.args.work.now.items c.loop-place.work.items c.follow.new.work.items c.args.source.now c.args.places.now c.loop-place.place-index c.loop-place-test.true c.loop-place.invariant c.in_ok-follow.ensures
