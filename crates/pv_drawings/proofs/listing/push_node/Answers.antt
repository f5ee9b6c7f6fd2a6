use Rattle.pv_drawings.proofs.Texts.{node_after}
use Rattle.pv_drawings.proofs.listing.push_node.Goals as goal

pub returns : goal.returns
returns c = node_after _ _ _ _ _ c.args.n c.args.node.now c.in_ok-push.ensures c.in_ok-push_op.ensures (rw c.as_slice.ensures at c.in_ok-push_each.ensures) c.in_ok-extend_from_slice.ensures.items
