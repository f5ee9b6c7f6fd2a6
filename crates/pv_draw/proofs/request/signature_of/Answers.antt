use Rattle.std.proofs.Common.{◌≡◌, None, Some, sym, ap, ◌∙◌}
use Rattle.pv_token.specs.Tokens.{shown_token}
use Rattle.pv_draw.proofs.Asking.{shows, shows_nothing}
use Rattle.pv_draw.proofs.request.signature_of.Goals as goal

pub returns-in_default : goal.returns-in_default
returns-in_default c s name desc =
    let read : shown_token.reads c.args.name.now ≡ None = ap shown_token.reads (sym c.as_bytes.ensures.value) ∙ sym (rw c.in_default.is at c.in_ok-name.ensures) in
    shows_nothing c.args.name.now s.name read name

pub returns-in_default-2 : goal.returns-in_default-2
returns-in_default-2 c s name desc =
    let read : shown_token.reads c.args.desc.now ≡ None = ap shown_token.reads (sym c.as_bytes-2.ensures.value) ∙ sym (rw c.in_default-2.is at c.in_ok-desc.ensures) in
    shows_nothing c.args.desc.now s.desc read desc

pub returns : goal.returns
returns c =
    let name : shown_token.reads c.args.name.now ≡ Some c.in-Some.name.items = ap shown_token.reads (sym c.as_bytes.ensures.value) ∙ sym (rw c.in-Some.is at c.in_ok-name.ensures) in
    let desc : shown_token.reads c.args.desc.now ≡ Some c.in-Some-2.desc.items = ap shown_token.reads (sym c.as_bytes-2.ensures.value) ∙ sym (rw c.in-Some-2.is at c.in_ok-desc.ensures) in (
      shows c.args.name.now c.in-Some.name.items c.in_ok-new.field-0 name (c.in_ok-new.ensures ∙ c.deref.ensures.value),
      shows c.args.desc.now c.in-Some-2.desc.items c.in_ok-new-2.field-0 desc (c.in_ok-new-2.ensures ∙ c.deref-2.ensures.value),
    )
