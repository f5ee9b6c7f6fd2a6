use Rattle.pv_sections.proofs.Accepting.{certified_accepted}
use Rattle.pv_sections.proofs.laws.law_certified.Goals as goal

pub returns : goal.returns
returns c = certified_accepted
