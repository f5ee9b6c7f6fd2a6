use Rattle.pv_terms.proofs.Reading.{read_once}
use Rattle.pv_terms.proofs.laws.law_once.Goals as goal

pub returns : goal.returns
returns c = read_once
