use Rattle.std.proofs.Common.{sym, ◌∙◌, ℕ, ◌-◌, subst}
use Rattle.std.proofs.Math.ListN.{get_or}
use Rattle.pv_check.specs.Kept.{open_now}
use Rattle.pv_check.specs.Inductions.{Opens}
use Rattle.pv_check.proofs.Ended.{none_open, opens_now}
use Rattle.pv_check.proofs.seen.Seen.open_step.Goals as goal

pub returns-then-block-eq0 : goal.returns-then-block-eq0
returns-then-block-eq0 c = none_open c.args.self.now.steps.now (sym c.inside-block.ensures.number ∙ c.if-block-eq0.true)

pub returns-else-block-eq0 : goal.returns-else-block-eq0
returns-else-block-eq0 c =
    subst (λ (n : ℕ). Opens (open_now c.args.self.now.steps.now) (get_or c.args.self.now.steps.now (n - 1) c.index-self-block.result)) (sym c.inside-block.ensures.number)
    (opens_now c.args.self.now.steps.now c.index-self-block.result (λ z. c.if-block-eq0.false (c.inside-block.ensures.number ∙ z)))
