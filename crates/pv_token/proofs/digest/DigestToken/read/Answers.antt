use Rattle.std.proofs.Common.{sym, ◌∙◌}
use Rattle.pv_token.proofs.TextSteps.{digest_read}
use Rattle.pv_token.proofs.digest.DigestToken.read.Goals as goal

pub returns-then-eq : goal.returns-then-eq
returns-then-eq c = digest_read c.in_ok-digest.digest c.as_slice.result.now c.args.word.now c.in_ok-digest.ensures.some (c.as_slice.ensures ∙ c.digits_of.ensures) (sym c.eq.ensures ∙ c.if-eq.true)
