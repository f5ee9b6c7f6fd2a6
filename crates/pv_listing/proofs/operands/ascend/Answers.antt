use Rattle.std.proofs.Common.{◌∙◌}
use Rattle.pv_listing.proofs.Tests.{few_ascend}
use Rattle.pv_listing.proofs.operands.ascend.Goals as goal

pub returns : goal.returns
returns c = few_ascend c.loop-rest.rest.now c.in_default.len_below ∙ c.loop-rest.invariant
