use Rattle.std.proofs.Common.{sym, ◌∙◌}
use Rattle.std.specs.Int.{w32}
use Rattle.std.proofs.lemmas.Int.{to_z-of_z}
use Rattle.pv_token.proofs.NumberSteps.{int_read}
use Rattle.pv_token.proofs.number.IntToken.read.Goals as goal

pub returns-then-eq : goal.returns-then-eq
returns-then-eq c = int_read c.in_ok-n.n _ c.as_bytes.result.now c.args.word.now c.in_ok-n.ensures.fits (to_z-of_z w32 c.in_ok-n.n c.in_ok-n.ensures.fits) (c.as_bytes.ensures.value ∙ c.format.ensures.text) (sym c.eq.ensures ∙ c.if-eq.true)
