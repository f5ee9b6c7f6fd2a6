use Rattle.pv_denote.proofs.laws.law_settled.Goals as goal
use Rattle.pv_denote.proofs.GraphLaws.{sort_law, settled_law}

pub returns : goal.returns
returns c = record { sorts = sort_law; settled = settled_law }
