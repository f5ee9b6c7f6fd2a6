use Rattle.pv_drawings.specs.Dots.{node_lines}
use Rattle.pv_drawings.proofs.Texts.{lines_more}
use Rattle.pv_drawings.proofs.dot.push_nodes.Goals as goal

pub loop-n-preserved : goal.loop-n-preserved
loop-n-preserved c = lines_more node_lines c.args.graph.now.nodes c.loop-n.n c.node.result.now _ _ _ c.node.ensures c.loop-n.invariant c.in_ok-push_node.ensures
