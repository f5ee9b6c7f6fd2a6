use Rattle.std.proofs.Common.{Bool, List, sym, subst, ◌+◌, take}
use Rattle.pv_graph.specs.Reach.{AreBegunAfter}
use Rattle.pv_graph.proofs.After.{begun_after_more}
use Rattle.pv_graph.proofs.reach.starts_after.Goals as goal

pub loop-node-preserved : goal.loop-node-preserved
loop-node-preserved c =
    subst (λ (starts : List Bool). AreBegunAfter c.args.known.now (take (c.loop-node.node-index + 1) c.args.nodes.now) c.args.look starts) (sym c.in_ok-push.ensures.items)
    (begun_after_more c.args.known.now c.args.nodes.now c.args.look c.loop-node.node-index c.node-item.result c.loop-node-test.true c.node-item.is c.is_start.result c.is_start.ensures c.loop-node.starts.items c.loop-node.invariant)
