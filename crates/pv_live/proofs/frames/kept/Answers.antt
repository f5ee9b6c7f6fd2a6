use Rattle.std.proofs.Common.{◌∷◌, [], length, length-append, sym, ap, subst, arith}
use Rattle.pv_live.proofs.Kept.{AreKeptTo, kept_more}
use Rattle.pv_live.proofs.frames.kept.Goals as goal
use Rattle.pv_live.proofs.frames.kept.Goals.{then-row-local, else-row-local}

pub loop-local-preserved : goal.loop-local-preserved
loop-local-preserved c = record {
  long = omega (arith, ap length c.in_ok-push.ensures.items, length-append c.loop-local.sorts.items (c.if-row-local.sort ∷ []), c.loop-local.invariant.long);
  kept = subst (AreKeptTo c.args.row.now c.args.locals.now) (sym c.in_ok-push.ensures.items)
      (kept_more c.args.row.now c.args.locals.now c.loop-local.sorts.items c.loop-local.local _ c.if-row-local.sort c.loop-local.invariant.long (omega (arith, c.loop-local-test.true, c.requires)) c.loop-local-test.true c.loop-local.invariant.kept
      (λ e. elim c.if-row-local.branch [ then-row-local w ↦ w.sort-is | else-row-local w ↦ absurd (let f = w.if-row-local.false in cc) ])
      (λ e. elim c.if-row-local.branch [ then-row-local w ↦ absurd (let f = w.if-row-local.true in cc) | else-row-local w ↦ w.sort-is ]));
}
