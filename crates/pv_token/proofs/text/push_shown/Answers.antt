use Rattle.std.proofs.Common.{◌++◌, ℕ, List, sym, ap, ◌∙◌}
use Rattle.percent_encoding.specs.Iter.{encoded_text}
use Rattle.pv_token.proofs.TextSteps.{encoded_shown}
use Rattle.pv_token.proofs.text.push_shown.Goals as goal

pub returns : goal.returns
returns c =
    c.in_ok-extend_from_slice.ensures.items
    ∙ ap (λ (t : List ℕ). c.args.out.now.items ++ t)
    (c.as_bytes.ensures.value ∙ c.in_ok-append_to.ensures.ok ∙ ap (λ (t : List ℕ). t ++ encoded_text c.percent_encode.result) c.new-text.ensures.bytes ∙ c.percent_encode.ensures.text ∙ encoded_shown c.args.bytes.now (sym c.is_empty.ensures ∙ c.if-is_empty.false))
