use Rattle.pv_terms.proofs.Tying.{tying_unfolds}
use Rattle.pv_terms.proofs.laws.law_tying.Goals as goal

pub returns : goal.returns
returns c = tying_unfolds
