use Rattle.pv_denote.proofs.laws.law_growth.Goals as goal
use Rattle.pv_denote.proofs.GraphLaws.{growth_law}
use Rattle.pv_denote.proofs.Tying.{tie_keeps}

pub returns : goal.returns
returns c = record { grows = growth_law; ties = tie_keeps }
