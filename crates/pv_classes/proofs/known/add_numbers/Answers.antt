use Rattle.std.proofs.Common.{length, ◌∙◌, ap, arith}
use Rattle.std.proofs.lemmas.List.{length-set}
use Rattle.pv_classes.proofs.Learnt.{numbered_more}
use Rattle.pv_classes.proofs.known.add_numbers.Goals as goal

pub loop-n-preserved : goal.loop-n-preserved
loop-n-preserved c = record {
  long = ap length c.in_ok-put.ensures.ok ∙ length-set c.loop-n.lists _ _ ∙ c.loop-n.invariant.long;
  says = numbered_more c.args.g.now.nodes c.loop-n.lists c.put.new.self c.loop-n.n c.node.result.now c.op_number.result c.node.ensures c.op_number.ensures.number
      (omega (arith, c.op_number.ensures.below, c.loop-n.invariant.long)) c.in_ok-put.ensures.ok c.loop-n.invariant.says;
}
