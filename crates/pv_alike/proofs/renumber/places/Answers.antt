use Rattle.std.proofs.Common.{◌≡◌, ℕ, Some, slice_get, get_or}
use Rattle.std.proofs.lemmas.Option.{slice_get-get_or}
use Rattle.pv_alike.proofs.Places.{zip_more_right}
use Rattle.pv_alike.proofs.renumber.places.Goals as goal

pub loop-n-preserved : goal.loop-n-preserved
loop-n-preserved c =
    rw c.in_ok-push.ensures.items
    (zip_more_right (λ (p n : ℕ). slice_get c.args.order.now p ≡ Some n) c.loop-n.places.items c.args.nodes.now c.loop-n.n-index c.place.result (get_or c.args.nodes.now c.loop-n.n-index 0)
    (slice_get-get_or c.args.nodes.now c.loop-n.n-index 0 c.loop-n-test.true) c.loop-n.invariant c.place.ensures)
