use Rattle.std.proofs.Common.{sym, ◌∙◌}
use Rattle.pv_machine.proofs.OnStack.{lie_empty}
use Rattle.pv_machine.proofs.stack.lie_on.Goals as goal

pub returns-in_default-split_last : goal.returns-in_default-split_last
returns-in_default-split_last c = sym (lie_empty c.loop-asked.asked.now c.loop-asked.rest.now c.in-len1-up.len_at_least c.in_default-split_last.ensures.cases) ∙ c.loop-asked.invariant
