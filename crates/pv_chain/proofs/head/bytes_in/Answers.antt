use Rattle.std.proofs.Common.{None, sym, ap, ◌∙◌}
use Rattle.hex.specs.Hex.{encode_lower}
use Rattle.pv_chain.specs.Digits.{IsMeant}
use Rattle.pv_chain.proofs.HeadSteps.{no_bytes, bytes_read}
use Rattle.pv_chain.proofs.head.bytes_in.Goals as goal

pub returns-in_default : goal.returns-in_default
returns-in_default c =
    let none : IsMeant c.args.word.now None = rw c.in_default.is at c.in_ok-bytes.ensures in
    no_bytes c.args.word.now none.0 none.1

pub returns-then-eq : goal.returns-then-eq
returns-then-eq c =
    bytes_read c.in-Some.bytes.items c.as_bytes.result.now c.args.word.now (rw c.in-Some.is at c.in_ok-bytes.ensures) (c.as_bytes.ensures.value ∙ c.in_ok-digits.ensures ∙ ap encode_lower c.as_slice.ensures.value) (sym c.eq.ensures ∙ c.if-eq.true)
