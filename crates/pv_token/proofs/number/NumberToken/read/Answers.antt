use Rattle.std.proofs.Common.{sym, ◌∙◌}
use Rattle.pv_token.proofs.NumberSteps.{u32_read}
use Rattle.pv_token.proofs.number.NumberToken.read.Goals as goal

pub returns-then-eq : goal.returns-then-eq
returns-then-eq c = u32_read c.in_ok-n.n c.as_bytes.result.now c.args.word.now c.in_ok-n.ensures.fits (c.as_bytes.ensures.value ∙ c.format.ensures.text) (sym c.eq.ensures ∙ c.if-eq.true)
