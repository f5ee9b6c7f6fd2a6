use Rattle.pv_graph.proofs.TieRule.{tie_keeps_rule}
use Rattle.pv_graph.proofs.laws.law_ties.Goals as goal

pub returns : goal.returns
returns c = tie_keeps_rule
