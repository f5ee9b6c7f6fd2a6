use Rattle.std.proofs.Common.{arith}
use Rattle.pv_token.proofs.NumberSteps.{signed_utf8, long_parsed}
use Rattle.pv_token.proofs.number.long_in.Goals as goal

pub returns-in-Err-clause-parsed : goal.returns-in-Err-clause-parsed
returns-in-Err-clause-parsed c = λ z fits e. absurd (c.in-Err.ensures.cases.0 (signed_utf8 z c.args.word.now (omega (arith, fits.sfits)) e))

pub returns-in-Ok-clause-parsed : goal.returns-in-Ok-clause-parsed
returns-in-Ok-clause-parsed c = λ z fits e. long_parsed z c.args.word.now c.in-Ok.text.now c.parse.result c.ok.result fits e c.in-Ok.ensures.cases.0 c.parse.ensures.value.0 c.ok.ensures.value
