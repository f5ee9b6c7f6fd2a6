use Rattle.std.proofs.Common.{◌<◌, length, get_or, rules}
use Rattle.pv_graph.proofs.SortSteps.{have_push}
use Rattle.pv_graph.proofs.sort.sorts_of.Goals as goal

pub loop-kid-preserved : goal.loop-kid-preserved
loop-kid-preserved c =
    let within : get_or c.args.kids.now c.loop-kid.kid-index 0 < length c.args.sorts.now.items = search rules in
    rw c.in_ok-push.ensures.items (have_push c.args.sorts.now.items c.args.kids.now c.loop-kid.found.items c.loop-kid.kid-index c.index.result.now c.loop-kid-test.true c.loop-kid.invariant within c.index.ensures)
