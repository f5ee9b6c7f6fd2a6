use Rattle.pv_denote.proofs.laws.law_means.Goals as goal
use Rattle.pv_denote.proofs.GraphLaws.{value_means}

pub returns : goal.returns
returns c = value_means
