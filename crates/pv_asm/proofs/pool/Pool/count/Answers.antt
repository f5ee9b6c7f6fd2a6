use Rattle.std.proofs.Common.{ap, ◌∙◌}
use Rattle.pv_asm.specs.Needs.{after}
use Rattle.pv_asm.proofs.pool.Pool.count.Goals as goal

pub returns : goal.returns
returns c = c.self.invariant.1 ∙ ap (after 1) c.self.view_is
