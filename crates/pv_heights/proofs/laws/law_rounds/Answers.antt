use Rattle.pv_heights.proofs.Listed.{round_reached}
use Rattle.pv_heights.proofs.Reached.{saturated_reached}
use Rattle.pv_heights.proofs.Nodes.{graph_whole}
use Rattle.pv_heights.proofs.laws.law_rounds.Goals as goal

pub returns-clause-round : goal.returns-clause-round
returns-clause-round c g assumed table k h i numbers between after pairs ig ii e binds r round p q j =
    round_reached g (graph_whole g ig) assumed table binds k h i numbers between after pairs e (graph_whole i ii) r round p q j

pub returns-clause-saturated : goal.returns-clause-saturated
returns-clause-saturated c g assumed table k h numbers ig r s = saturated_reached g (graph_whole g ig) assumed table k h numbers r s
