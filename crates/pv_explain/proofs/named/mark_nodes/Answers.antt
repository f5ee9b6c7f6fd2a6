use Rattle.std.specs.List.{AllByRecursion}
use Rattle.std.proofs.Common.{get_or, refl, subst, take_all}
use Rattle.pv_explain.specs.Named.{IsMarkedNode}
use Rattle.pv_explain.proofs.NodeMarks.{all_next, keeps_refl, keeps_trans, node_keeps}
use Rattle.pv_explain.proofs.named.mark_nodes.Goals as goal

pub loop-n-init : goal.loop-n-init
loop-n-init c = record { keeps = keeps_refl c.args.marks.now.items; marked = tt }

pub loop-n-preserved : goal.loop-n-preserved
loop-n-preserved c =
    let old = c.loop-n.marks.items in
    let new = c.mark_node.new.marks.items in
    let i = c.loop-n.n-index in
    let nodes = c.args.nodes.now in
    record {
      keeps = keeps_trans c.args.marks.now.items old new c.loop-n.invariant.keeps c.mark_node.ensures.keeps;
      marked = all_next (IsMarkedNode old) (IsMarkedNode new) nodes i 0 (get_or nodes i 0) (node_keeps old new c.mark_node.ensures.keeps) c.loop-n-test.true refl c.loop-n.invariant.marked c.mark_node.ensures.marked;
    }

pub returns-clause-marked : goal.returns-clause-marked
returns-clause-marked c = subst (AllByRecursion (IsMarkedNode c.loop-n.marks.items)) (take_all c.loop-n.n-index c.args.nodes.now c.loop-n-test.false) c.loop-n.invariant.marked
