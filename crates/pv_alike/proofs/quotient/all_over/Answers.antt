use Rattle.std.proofs.Common.{get_or}
use Rattle.std.proofs.lemmas.Option.{slice_get-get_or}
use Rattle.pv_alike.specs.Keys.{number_at}
use Rattle.pv_alike.specs.Quotient.{IsOver}
use Rattle.pv_alike.proofs.Places.{zip_more}
use Rattle.pv_alike.proofs.quotient.all_over.Goals as goal

pub loop-n-preserved : goal.loop-n-preserved
loop-n-preserved c =
    rw c.in_ok-push.ensures.items
    (zip_more (IsOver c.args.g.now.nodes (number_at c.args.numbers.now)) c.args.nodes.now c.loop-n.all.items c.loop-n.n-index (get_or c.args.nodes.now c.loop-n.n-index 0) c.in_ok-over_numbers.field-0
    (slice_get-get_or c.args.nodes.now c.loop-n.n-index 0 c.loop-n-test.true) c.loop-n.invariant
    (c.node.result.now, c.node.ensures, c.in_ok-over_numbers.ensures))
