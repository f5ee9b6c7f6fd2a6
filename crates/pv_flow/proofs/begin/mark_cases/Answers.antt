use Rattle.pv_flow.proofs.Marks.{mark_more}
use Rattle.pv_flow.proofs.begin.mark_cases.Goals as goal

pub loop-case-preserved : goal.loop-case-preserved
loop-case-preserved c = mark_more c.args.cases.now c.loop-case.case-index _ c.args.begins.now c.loop-case.begins c.mark.new.begins c.loop-case-test.true c.loop-case.invariant c.mark.ensures
