use Rattle.std.proofs.Common.{◌+◌, Bool, List, None, get_or, take, sym, subst}
use Rattle.pv_graph.specs.Base.{AreOfSort}
use Rattle.pv_graph.proofs.Basing.{own_test, places_more}
use Rattle.pv_graph.proofs.base.places_of.Goals as goal

pub loop-own-preserved : goal.loop-own-preserved
loop-own-preserved c =
    subst (λ (starts : List Bool). AreOfSort (take (c.loop-own.own-index + 1) c.args.owns.now) c.args.sort starts) (sym c.in_ok-push.ensures.items)
    (places_more c.args.sort c.args.owns.now c.loop-own.own-index c.loop-own-test.true c.eq.result (own_test (get_or c.args.owns.now c.loop-own.own-index None) c.args.sort c.eq.result c.eq.ensures) c.loop-own.starts.items c.loop-own.invariant)
