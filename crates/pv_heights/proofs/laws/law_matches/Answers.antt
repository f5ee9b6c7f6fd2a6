use Rattle.pv_heights.proofs.Counting.{list_counts}
use Rattle.pv_heights.proofs.Saturation.{saturated_where}
use Rattle.pv_heights.proofs.Nodes.{graph_whole}
use Rattle.pv_heights.proofs.laws.law_matches.Goals as goal

pub returns-clause-count : goal.returns-clause-count
returns-clause-count c = list_counts

pub returns-clause-saturated : goal.returns-clause-saturated
returns-clause-saturated c g assumed table k h numbers list ig binds r a = saturated_where g (graph_whole g ig) assumed table binds k h numbers r list a
