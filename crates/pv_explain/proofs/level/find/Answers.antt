use Rattle.std.proofs.Common.{arith}
use Rattle.pv_explain.proofs.Placing.{none_more}
use Rattle.pv_explain.proofs.level.find.Goals as goal

pub loop-i-preserved : goal.loop-i-preserved
loop-i-preserved c = none_more c.args.lines.now c.loop-i.i c.args.first c.args.second _ _ (let z = c.loop-i-test.true in omega (arith, z)) (c.is_of.ensures.no c.if-is_of.false) c.loop-i.invariant

pub returns-clause-none : goal.returns-clause-none
returns-clause-none c = λ e line f. c.loop-i.invariant line f (let z = c.loop-i-test.false in omega (arith, z))
