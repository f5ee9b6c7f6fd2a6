use Rattle.std.proofs.Common.{◌≡◌, true, sym, ◌∙◌}
use Rattle.std.specs.Bool.{beq}
use Rattle.std.specs.Prelude.{slice_get, Some}
use Rattle.pv_class.specs.Places.{IsNamedAt}
use Rattle.pv_report.proofs.Places.{here_again}
use Rattle.pv_report.proofs.Partnering.{beq_same, like_there, none_there, other_kind, same_beq}
use Rattle.pv_report.proofs.partners.partner_of.Goals as goal

pub returns-in_default : goal.returns-in_default
returns-in_default c = none_there c.args.method.now c.args.others.now (rw c.in_default.is at c.in_ok-place.ensures.place)

pub returns-then-is_instance : goal.returns-then-is_instance
returns-then-is_instance c =
    let x = c.index-as_slice-place.result in
    let named : IsNamedAt c.args.others.now c.args.method.now.name c.args.method.now.desc c.in-Some.place = rw c.in-Some.is at c.in_ok-place.ensures.place in
    let at : slice_get c.args.others.now c.in-Some.place ≡ Some x = here_again c.args.others.now c.in-Some.place x (rw c.in-Some.is at c.in_ok-place.ensures.within) (rw (← c.as_slice.ensures) c.index-as_slice-place.is) in
    like_there c.args.method.now c.args.others.now c.in-Some.place x at named (sym c.is_instance.ensures ∙ beq_same c.is_instance.result c.is_instance-2.result c.if-is_instance.true ∙ c.is_instance-2.ensures)

pub returns-else-is_instance : goal.returns-else-is_instance
returns-else-is_instance c =
    let x = c.index-as_slice-place.result in
    let named : IsNamedAt c.args.others.now c.args.method.now.name c.args.method.now.desc c.in-Some.place = rw c.in-Some.is at c.in_ok-place.ensures.place in
    let at : slice_get c.args.others.now c.in-Some.place ≡ Some x = here_again c.args.others.now c.in-Some.place x (rw c.in-Some.is at c.in_ok-place.ensures.within) (rw (← c.as_slice.ensures) c.index-as_slice-place.is) in
    other_kind c.args.method.now c.args.others.now c.in-Some.place x c.requires at named (λ same.
    let yes : beq c.is_instance.result c.is_instance-2.result ≡ true = same_beq c.is_instance.result c.is_instance-2.result (c.is_instance.ensures ∙ same ∙ sym c.is_instance-2.ensures) in
    absurd (cc (yes, c.if-is_instance.false)))
