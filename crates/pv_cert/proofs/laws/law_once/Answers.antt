use Rattle.pv_cert.proofs.EachText.{spelled_once}
use Rattle.pv_cert.proofs.laws.law_once.Goals as goal

pub returns : goal.returns
returns c = spelled_once
