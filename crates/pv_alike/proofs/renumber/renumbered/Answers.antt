use Rattle.std.proofs.Common.{length, get_or, refl}
use Rattle.std.proofs.lemmas.Option.{slice_get-get_or, slice_get_read}
use Rattle.pv_alike.specs.Renumbered.{IsCopyOf}
use Rattle.pv_alike.proofs.Places.{read_at, zip_more}
use Rattle.pv_alike.proofs.Closed.{closed_low, closed_kids}
use Rattle.pv_alike.proofs.renumber.renumbered.Goals as goal

pub bounds-nodes-n : goal.bounds-nodes-n
bounds-nodes-n c =
    closed_low c.args.nodes.now c.args.order.now c.loop-n.n-index (get_or c.as_slice-n-items.result.now c.loop-n.n-index 0) c.requires.closed
    (read_at c.args.order.now c.as_slice-n-items.result.now c.loop-n.n-index c.as_slice-n-items.ensures c.loop-n-test.true)

pub copy-requires-clause-there : goal.copy-requires-clause-there
copy-requires-clause-there c =
    let at = read_at c.args.order.now c.as_slice-n-items.result.now c.loop-n.n-index c.as_slice-n-items.ensures c.loop-n-test.true in
    let n = get_or c.as_slice-n-items.result.now c.loop-n.n-index 0 in
    let low = closed_low c.args.nodes.now c.args.order.now c.loop-n.n-index n c.requires.closed at in
    closed_kids c.args.nodes.now c.args.order.now c.loop-n.n-index n c.index-nodes-n.result c.requires.closed at
    (slice_get_read c.args.nodes.now (length c.args.nodes.now) n c.index-nodes-n.result refl low c.index-nodes-n.is)

pub loop-n-preserved : goal.loop-n-preserved
loop-n-preserved c =
    let at = read_at c.args.order.now c.as_slice-n-items.result.now c.loop-n.n-index c.as_slice-n-items.ensures c.loop-n-test.true in
    let n = get_or c.as_slice-n-items.result.now c.loop-n.n-index 0 in
    let low = closed_low c.args.nodes.now c.args.order.now c.loop-n.n-index n c.requires.closed at in
    rw c.in_ok-push.ensures.items
    (zip_more (IsCopyOf c.args.nodes.now c.args.order.now) c.as_slice-n-items.result.now c.loop-n.copies.items c.loop-n.n-index n c.in_ok-copy.field-0
    (slice_get-get_or c.as_slice-n-items.result.now c.loop-n.n-index 0 c.loop-n-test.true) c.loop-n.invariant
    (c.index-nodes-n.result, slice_get_read c.args.nodes.now (length c.args.nodes.now) n c.index-nodes-n.result refl low c.index-nodes-n.is, c.in_ok-copy.ensures))
