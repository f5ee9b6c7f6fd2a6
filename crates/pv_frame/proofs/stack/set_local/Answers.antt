use Rattle.std.proofs.Common.{ap, sym, ◌∙◌}
use Rattle.pv_frame.proofs.Words.{same, lost_before}
use Rattle.pv_frame.specs.declared.sort.Sort.TheVariants as sort
use Rattle.pv_frame.proofs.StackSteps.{stored_wide, stored_narrow, set_local_is}
use Rattle.pv_frame.proofs.stack.set_local.Goals as goal
use Rattle.pv_frame.proofs.stack.set_local.Goals.{then-is_wide, else-is_wide}

pub returns : goal.returns
returns c =
    let k = c.args.place in
    let s = c.args.sort in
    let before = c.lose_long.new.locals.items in
    let lost = c.lose_long.ensures ∙ ap (lost_before same sort.Unknown k) c.in_ok-after.ensures.items in
    elim c.if-is_wide.branch [
      | then-is_wide w ↦ set_local_is same sort.Unknown k s c.args.locals.now before c.if-is_wide.after.items c.requires lost (ap (λ v. v.items) w.after-is ∙ stored_wide k s before (sym c.is_wide.ensures ∙ w.if-is_wide.true))
      | else-is_wide w ↦ set_local_is same sort.Unknown k s c.args.locals.now before c.if-is_wide.after.items c.requires lost (ap (λ v. v.items) w.after-is ∙ stored_narrow k s before (sym c.is_wide.ensures ∙ w.if-is_wide.false))
    ]
