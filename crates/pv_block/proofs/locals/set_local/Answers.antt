use Rattle.std.proofs.Common.{ap, sym, ◌∙◌}
use Rattle.pv_block.proofs.Words.{lost_before}
use Rattle.pv_block.proofs.Steps.{stored_wide, stored_narrow, set_local_is}
use Rattle.pv_block.proofs.locals.set_local.Goals as goal
use Rattle.pv_block.proofs.locals.set_local.Goals.{then-is_wide, else-is_wide}

pub returns : goal.returns
returns c =
    let k = c.args.place in
    let u = c.args.unset in
    let s = c.args.cell in
    let before = c.lose_long.new.locals.items in
    let lost = c.lose_long.ensures ∙ ap (lost_before u k) c.in_ok-after.ensures.items in
    elim c.if-is_wide.branch [
      | then-is_wide w ↦ set_local_is u k s c.args.locals.now before c.if-is_wide.after.items c.requires lost (ap (λ v. v.items) w.after-is ∙ stored_wide u k s before (sym c.is_wide.ensures ∙ w.if-is_wide.true))
      | else-is_wide w ↦ set_local_is u k s c.args.locals.now before c.if-is_wide.after.items c.requires lost (ap (λ v. v.items) w.after-is ∙ stored_narrow u k s before (sym c.is_wide.ensures ∙ w.if-is_wide.false))
    ]
