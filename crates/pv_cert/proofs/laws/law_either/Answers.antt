use Rattle.pv_cert.proofs.EachText.{spelled_or_bad}
use Rattle.pv_cert.proofs.laws.law_either.Goals as goal

pub returns : goal.returns
returns c = spelled_or_bad
