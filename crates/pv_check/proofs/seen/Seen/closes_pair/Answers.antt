use Rattle.std.proofs.Common.{reverse}
use Rattle.pv_steps.specs.Steps.{outer_of}
use Rattle.pv_check.specs.Kept.{open_now}
use Rattle.pv_check.proofs.Ended.{closes_parts}
use Rattle.pv_check.proofs.seen.Seen.closes_pair.Goals as goal

pub returns : goal.returns
returns c =
    let parts = closes_parts c.args.graph.now (reverse c.args.self.now.steps.now) c.args.depth (open_now c.args.self.now.steps.now) (outer_of (open_now c.args.self.now.steps.now)) c.args.pair c.args.facts in
    (λ e. parts.0 (c.has_both.ensures.0 e), λ h. c.has_both.ensures.1 (parts.1 h))
