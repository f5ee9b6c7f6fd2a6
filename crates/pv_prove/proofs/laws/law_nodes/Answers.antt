use Rattle.pv_prove.proofs.ByNodes.{verdict_by_nodes}
use Rattle.pv_prove.proofs.laws.law_nodes.Goals as goal

pub returns : goal.returns
returns c = verdict_by_nodes
