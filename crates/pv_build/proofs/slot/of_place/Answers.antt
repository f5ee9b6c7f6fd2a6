use Rattle.std.proofs.Common.{sym, ◌∙◌}
use Rattle.pv_build.proofs.Slotted.{stack_none, stack_read}
use Rattle.pv_build.proofs.slot.of_place.Goals as goal

pub returns-then-j-stack : goal.returns-then-j-stack
returns-then-j-stack c = sym (stack_none c.args.stack.now c.args.j c.if-j-stack.true)

pub returns : goal.returns
returns c = c.of_cell.ensures ∙ stack_read c.args.stack.now c.args.j _ c.if-j-stack.false
