use Rattle.std.proofs.Common.{subst}
use Rattle.pv_live.specs.Marks.{Swept}
use Rattle.pv_live.proofs.Tables.{know_live}
use Rattle.pv_live.proofs.table.live_locals.Goals as goal

pub returns : goal.returns
returns c = know_live c.args.program.now c.sweep.new.rows.items c.in_ok-sweep.ensures.table (subst (Swept c.args.program.now c.loop-rows.rows.items c.sweep.new.rows.items) c.if-branch.false c.in_ok-sweep.ensures.swept)
