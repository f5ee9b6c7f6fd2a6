use Rattle.std.proofs.Common.{◌∷◌, [], length, length-append, sym, ap, subst, arith}
use Rattle.pv_live.proofs.Kept.{FramesTo, frames_more}
use Rattle.pv_live.proofs.frames.kept_frames.Goals as goal

pub loop-place-preserved : goal.loop-place-preserved
loop-place-preserved c = record {
  long = omega (arith, ap length c.in_ok-push.ensures.items, length-append c.loop-place.all.items (c.in_ok-frame.frame ∷ []), c.loop-place.invariant.long);
  kept = subst (FramesTo c.args.rows.now c.args.frames.now) (sym c.in_ok-push.ensures.items)
      (frames_more c.args.rows.now c.args.frames.now c.loop-place.all.items c.loop-place.place c.index-rows-place.result c.as_slice.result.now c.index-frames-place.result c.in_ok-frame.frame
      c.loop-place.invariant.long (omega (arith, c.loop-place-test.true, c.requires.long)) c.loop-place-test.true c.index-rows-place.is c.index-frames-place.is c.as_slice.ensures c.in_ok-frame.ensures c.loop-place.invariant.kept);
}
