use Rattle.pv_explain.proofs.NodeMarks.{keeps_trans, with_kids_next}
use Rattle.pv_explain.proofs.named.mark_all_with_kids.Goals as goal

pub loop-n-preserved : goal.loop-n-preserved
loop-n-preserved c =
    let old = c.loop-n.marks.items in
    let new = c.mark_with_kids.new.marks.items in
    record {
      keeps = keeps_trans c.args.marks.now.items old new c.loop-n.invariant.keeps c.mark_with_kids.ensures.keeps;
      marked =
          with_kids_next c.args.graph.now c.args.named.now old new c.loop-n.n c.is_marked.result c.mark_with_kids.ensures.keeps c.is_marked.ensures c.mark_with_kids.ensures.marked c.loop-n.invariant.marked;
    }
