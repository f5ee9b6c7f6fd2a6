use Rattle.std.proofs.Common.{◌∙◌}
use Rattle.pv_block.proofs.Steps.{pops_short}
use Rattle.pv_block.proofs.stack.below.Goals as goal

pub returns-in_default-rest : goal.returns-in_default-rest
returns-in_default-rest c = pops_short c.loop-asked.asked.now c.loop-asked.rest.now c.in-len1-up.len_at_least c.in_default-rest.len_below ∙ c.loop-asked.invariant
