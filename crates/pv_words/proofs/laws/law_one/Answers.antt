use Rattle.pv_words.proofs.Examples.{is_one}
use Rattle.pv_words.proofs.laws.law_one.Goals as goal

pub returns : goal.returns
returns c = is_one
