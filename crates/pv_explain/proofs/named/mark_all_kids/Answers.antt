use Rattle.std.proofs.Common.{◌-◌, arith}
use Rattle.pv_explain.proofs.NodeMarks.{closed_next, keeps_more, keeps_trans}
use Rattle.pv_explain.proofs.named.mark_all_kids.Goals as goal

pub loop-k-preserved : goal.loop-k-preserved
loop-k-preserved c =
    let old = c.loop-k.marks.items in
    let new = c.mark_kids.new.marks.items in
    let n = c.len-nodes.result in
    let k = c.loop-k.k in
    record {
      keeps = keeps_trans c.args.marks.now.items old new c.loop-k.invariant.keeps (keeps_more (n - 1 - k) old new c.mark_kids.ensures.more);
      closed = closed_next c.args.graph.now old new n k (omega (arith, c.loop-k-test.true)) c.mark_kids.ensures.more c.loop-k.invariant.closed c.mark_kids.ensures.kids;
    }
