use Rattle.pv_graph.proofs.BaseLaws.{bases_are_made}
use Rattle.pv_graph.proofs.laws.law_bases.Goals as goal

pub returns : goal.returns
returns c = bases_are_made
