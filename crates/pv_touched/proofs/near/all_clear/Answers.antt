use Rattle.std.proofs.Common.{subst}
use Rattle.pv_touched.specs.Far.{IsClear}
use Rattle.pv_touched.proofs.Clear.{clear_more}
use Rattle.pv_touched.proofs.near.all_clear.Goals as goal

pub loop-kid-preserved : goal.loop-kid-preserved
loop-kid-preserved c = clear_more c.args.numbers.now c.args.near.now c.args.kids.now c.loop-kid.kid-index c.loop-kid-test.true c.loop-kid.invariant (subst (IsClear c.args.near.now) c.class_at.ensures (c.is_clear.ensures.0 c.if-not-is_clear.false))
