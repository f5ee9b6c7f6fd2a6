use Rattle.pv_chain.proofs.Once.{spelled_once}
use Rattle.pv_chain.proofs.laws.law_once.Goals as goal

pub returns : goal.returns
returns c = spelled_once
