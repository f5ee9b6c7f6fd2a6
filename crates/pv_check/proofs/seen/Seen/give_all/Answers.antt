use Rattle.std.proofs.Common.{inl, inr, reverse}
use Rattle.pv_steps.specs.Steps.{both_sides}
use Rattle.pv_check.specs.Kept.{open_now}
use Rattle.pv_check.proofs.Fresh.{more_reasons}
use Rattle.pv_check.proofs.seen.Seen.give_all.Goals as goal

pub returns-in_default : goal.returns-in_default
returns-in_default c = (
  λ e. absurd (cc),
  λ h. absurd (more_reasons (reverse c.args.self.now.steps.now) (open_now c.args.self.now.steps.now) (both_sides c.args.set.now) c.args.reasons.now c.loop-reason.reason-index c.loop-reason.left_kids.now c.loop-reason.right_kids.now
      c.loop-reason-test.true (inl c.in_default.len_below) (c.loop-reason.invariant.0 h)),
)

pub returns-in_default-right_kids : goal.returns-in_default-right_kids
returns-in_default-right_kids c = (
  λ e. absurd (cc),
  λ h. absurd (more_reasons (reverse c.args.self.now.steps.now) (open_now c.args.self.now.steps.now) (both_sides c.args.set.now) c.args.reasons.now c.loop-reason.reason-index c.loop-reason.left_kids.now c.loop-reason.right_kids.now
      c.loop-reason-test.true (inr c.in_default-right_kids.len_below) (c.loop-reason.invariant.0 h)),
)
