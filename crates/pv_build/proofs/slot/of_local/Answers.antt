use Rattle.std.proofs.Common.{sym, ◌∙◌}
use Rattle.pv_build.proofs.Slotted.{local_none, local_read}
use Rattle.pv_build.proofs.slot.of_local.Goals as goal

pub returns-then-k-locals : goal.returns-then-k-locals
returns-then-k-locals c = sym (local_none c.args.locals.now c.args.k c.if-k-locals.true)

pub returns : goal.returns
returns c = c.of_cell.ensures ∙ local_read c.args.locals.now c.args.k _ c.if-k-locals.false
