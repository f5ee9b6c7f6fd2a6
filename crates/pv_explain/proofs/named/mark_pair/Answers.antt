use Rattle.pv_explain.proofs.NodeMarks.{keeps_trans, node_keeps}
use Rattle.pv_explain.proofs.named.mark_pair.Goals as goal

pub returns-clause-keeps : goal.returns-clause-keeps
returns-clause-keeps c = keeps_trans c.args.marks.now.items c.mark_node.new.marks.items c.mark_node-2.new.marks.items c.mark_node.ensures.keeps c.mark_node-2.ensures.keeps

pub returns-clause-marked : goal.returns-clause-marked
returns-clause-marked c = (node_keeps c.mark_node.new.marks.items c.mark_node-2.new.marks.items c.mark_node-2.ensures.keeps c.args.pair.0 c.mark_node.ensures.marked, c.mark_node-2.ensures.marked)
