use Rattle.pv_words.proofs.Examples.{options_end}
use Rattle.pv_words.proofs.laws.law_end.Goals as goal

pub returns : goal.returns
returns c = options_end
