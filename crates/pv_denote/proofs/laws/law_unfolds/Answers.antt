use Rattle.pv_denote.proofs.laws.law_unfolds.Goals as goal
use Rattle.pv_denote.proofs.GraphLaws.{unfolds_means}

pub returns : goal.returns
returns c = unfolds_means
