use Rattle.std.proofs.Common.{◌++◌, ℕ, List, sym, ap, ◌∙◌}
use Rattle.pv_token.specs.Spellings.{shown_bytes}
use Rattle.pv_token.proofs.TextSteps.{shown_read}
use Rattle.pv_token.proofs.text.read_shown.Goals as goal

pub returns-then-eq : goal.returns-then-eq
returns-then-eq c =
    shown_read c.in_ok-bytes.bytes.items c.as_slice.result.now c.args.word.now c.in_ok-bytes.ensures.bytes
    (c.as_slice.ensures.value ∙ c.in_ok-push_shown.ensures ∙ ap (λ (t : List ℕ). t ++ shown_bytes c.deref.result.now) c.new-text.ensures.items ∙ ap shown_bytes c.deref.ensures.value) (sym c.eq.ensures ∙ c.if-eq.true)
