use Rattle.std.proofs.Common.{sym}
use Rattle.pv_chain.proofs.LineSteps.{cut_more}
use Rattle.pv_chain.proofs.lines.cut_lines.Goals as goal

pub loop-k-preserved : goal.loop-k-preserved
loop-k-preserved c = cut_more c.args.count c.loop-k._k c.args.text.now c.loop-k.rest.now (c.in_ok-after.field-0-0.now, c.in_ok-after.after.now) c.loop-k-test.true c.loop-k.invariant (sym c.in_ok-after.ensures)
