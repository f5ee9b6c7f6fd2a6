use Rattle.std.proofs.Common.{reverse}
use Rattle.pv_steps.specs.Steps.{outer_of}
use Rattle.pv_steps.specs.Right.{ClosesPair}
use Rattle.pv_check.specs.Kept.{open_now}
use Rattle.pv_check.proofs.Ended.{more_pairs}
use Rattle.pv_check.proofs.seen.Seen.closes_all.Goals as goal

pub returns-in_default : goal.returns-in_default
returns-in_default c = (
  λ e. absurd (cc),
  λ h. absurd (more_pairs (ClosesPair c.args.graph.now (reverse c.args.self.now.steps.now) c.args.depth (open_now c.args.self.now.steps.now) (outer_of (open_now c.args.self.now.steps.now))) c.args.pairs.now c.loop-pair.pair-index c.loop-pair.rest.now
      c.loop-pair-test.true c.in_default.len_below (c.loop-pair.invariant.0 h)),
)
