use Rattle.pv_token.proofs.NumberSteps.{number_utf8, u32_parsed}
use Rattle.pv_token.proofs.number.u32_in.Goals as goal

pub returns-in-Err-clause-parsed : goal.returns-in-Err-clause-parsed
returns-in-Err-clause-parsed c = λ n lt e. absurd (c.in-Err.ensures.cases.0 (number_utf8 n c.args.word.now lt e))

pub returns-in-Ok-clause-parsed : goal.returns-in-Ok-clause-parsed
returns-in-Ok-clause-parsed c = λ n lt e. u32_parsed n c.args.word.now c.in-Ok.text.now c.parse.result c.ok.result lt e c.in-Ok.ensures.cases.0 c.parse.ensures.value.0 c.ok.ensures.value
