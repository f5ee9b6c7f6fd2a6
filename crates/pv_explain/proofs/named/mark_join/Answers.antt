use Rattle.pv_explain.proofs.NodeMarks.{keeps_trans, node_keeps}
use Rattle.pv_explain.proofs.named.mark_join.Goals as goal

pub returns-clause-keeps : goal.returns-clause-keeps
returns-clause-keeps c =
    let first = c.mark_node.new.marks.items in
    let second = c.mark_node-2.new.marks.items in
    keeps_trans c.args.marks.now.items second c.mark_axiom.new.marks.items (keeps_trans c.args.marks.now.items first second c.mark_node.ensures.keeps c.mark_node-2.ensures.keeps) c.mark_axiom.ensures.keeps

pub returns-clause-marked : goal.returns-clause-marked
returns-clause-marked c =
    let first = c.mark_node.new.marks.items in
    let second = c.mark_node-2.new.marks.items in
    let last = c.mark_axiom.new.marks.items in
    record {
      first = node_keeps first last (keeps_trans first second last c.mark_node-2.ensures.keeps c.mark_axiom.ensures.keeps) c.args.join.now.first c.mark_node.ensures.marked;
      second = node_keeps second last c.mark_axiom.ensures.keeps c.args.join.now.second c.mark_node-2.ensures.marked;
      axiom_ = c.mark_axiom.ensures.marked;
    }
