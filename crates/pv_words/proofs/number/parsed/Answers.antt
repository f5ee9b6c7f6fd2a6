use Rattle.pv_words.proofs.Numbers.{wide_parsed}
use Rattle.pv_words.proofs.number.parsed.Goals as goal

pub returns : goal.returns
returns c n lt is = wide_parsed n c.args.text.now c.parse.result c.ok.result lt is c.parse.ensures.value.0 c.ok.ensures.value
