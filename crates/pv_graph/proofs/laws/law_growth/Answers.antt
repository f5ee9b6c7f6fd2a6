use Rattle.pv_graph.proofs.laws.law_growth.Goals as goal
use Rattle.pv_graph.proofs.NodeLaws.{growth_unfolds}
use Rattle.pv_graph.proofs.TieLaws.{tie_keeps}

pub returns : goal.returns
returns c = record { grows = growth_unfolds; ties = tie_keeps }
