use Rattle.std.proofs.Common.{arith, get_or}
use Rattle.std.proofs.lemmas.Option.{slice_get-get_or}
use Rattle.pv_induct.proofs.Looking.{those-push, those-skip, those-end}
use Rattle.pv_induct.proofs.theta.thetas_of_depth.Goals as goal
use Rattle.pv_induct.proofs.theta.thetas_of_depth.Goals.{then-t-depth+in_ok-push, else-t-depth}

pub loop-t-preserved : goal.loop-t-preserved
loop-t-preserved c = elim c.if-t-depth.branch [
  | then-t-depth+in_ok-push w ↦ rw (w.found-is, w.in_ok-push.ensures.items) (those-push c.loop-t.t-index c.args.all.now c.args.depth c.loop-t.found.items (get_or c.args.all.now c.loop-t.t-index (record { depth = 0; node = 0; first = 0; second = 0 })) c.loop-t.invariant (slice_get-get_or c.args.all.now c.loop-t.t-index (record { depth = 0; node = 0; first = 0; second = 0 }) c.loop-t-test.true) w.if-t-depth.true)
  | else-t-depth w ↦ rw w.found-is (those-skip c.loop-t.t-index c.args.all.now c.args.depth c.loop-t.found.items (get_or c.args.all.now c.loop-t.t-index (record { depth = 0; node = 0; first = 0; second = 0 })) c.loop-t.invariant (slice_get-get_or c.args.all.now c.loop-t.t-index (record { depth = 0; node = 0; first = 0; second = 0 }) c.loop-t-test.true) w.if-t-depth.false)
]

pub returns : goal.returns
returns c = those-end c.loop-t.t-index c.args.all.now c.args.depth c.loop-t.found.items (omega arith) c.loop-t.invariant
