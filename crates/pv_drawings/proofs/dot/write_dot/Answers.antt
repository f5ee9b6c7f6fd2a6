use Rattle.pv_drawings.proofs.Texts.{dot_after}
use Rattle.pv_drawings.proofs.dot.write_dot.Goals as goal

pub returns : goal.returns
returns c =
    dot_after _ _ _ _ _ _ c.args.graph.now.nodes c.args.first c.args.second c.new-out.ensures.items c.in_ok-extend_from_slice.ensures.items c.in_ok-push_root.ensures c.in_ok-push_root-2.ensures c.in_ok-push_nodes.ensures c.in_ok-extend_from_slice-2.ensures.items
