use Rattle.std.proofs.Common.{reverse}
use Rattle.pv_check.proofs.Finished.{finish_parts}
use Rattle.pv_check.proofs.seen.Seen.is_finish.Goals as goal

pub returns : goal.returns
returns c =
    let parts = finish_parts c.args.graph.now (reverse c.args.self.now.steps.now) c.args.p c.args.q c.args.reasons in
    (λ e. parts.0 (c.is_finish_by.ensures.0 e), λ h. c.is_finish_by.ensures.1 (parts.1 h))
