use Rattle.pv_explain.proofs.Copying.{first_copy, copies_next}
use Rattle.pv_explain.proofs.copy.copies_of.Goals as goal

pub loop-node-preserved : goal.loop-node-preserved
loop-node-preserved c = record {
  copied = copies_next c.args.map.now c.args.nodes.now c.loop-node.copies.items c.push.new.self.items c.loop-node.node-index c.copy_of.result c.loop-node-test.true c.loop-node.invariant.copied c.copy_of.ensures c.in_ok-push.ensures.items;
  left = (first_copy c.args.map.now c.args.nodes.now c.loop-node.node-index c.loop-node-test.true c.loop-node.invariant.left).1;
}
