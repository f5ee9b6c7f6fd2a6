use Rattle.pv_links.proofs.Meaning.{equivalent_means}
use Rattle.pv_links.proofs.laws.law_equivalent.Goals as goal

pub returns : goal.returns
returns c = equivalent_means
