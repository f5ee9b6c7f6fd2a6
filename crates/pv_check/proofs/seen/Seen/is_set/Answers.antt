use Rattle.std.proofs.Common.{reverse}
use Rattle.pv_check.specs.Kept.{open_now}
use Rattle.pv_check.proofs.SetParts.{set_parts}
use Rattle.pv_check.proofs.seen.Seen.is_set.Goals as goal

pub returns : goal.returns
returns c =
    let parts = set_parts c.args.graph.now (reverse c.args.self.now.steps.now) (open_now c.args.self.now.steps.now) c.args.set.now c.len.ensures.graph in
    (λ e. parts.1 (c.has_parts.ensures.0 e), λ h. c.has_parts.ensures.1 (parts.0 h))
