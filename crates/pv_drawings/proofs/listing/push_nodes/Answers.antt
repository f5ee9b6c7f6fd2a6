use Rattle.pv_drawings.specs.Listings.{node_line}
use Rattle.pv_drawings.proofs.Texts.{line_more}
use Rattle.pv_drawings.proofs.listing.push_nodes.Goals as goal

pub loop-n-preserved : goal.loop-n-preserved
loop-n-preserved c = line_more node_line c.args.graph.now.nodes c.loop-n.n c.node.result.now _ _ _ c.node.ensures c.loop-n.invariant c.in_ok-push_node.ensures
