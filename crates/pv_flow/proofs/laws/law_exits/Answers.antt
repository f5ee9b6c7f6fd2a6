use Rattle.pv_flow.proofs.Departing.{goes_to_successors}
use Rattle.pv_flow.proofs.Flows.{edges_of_code}
use Rattle.pv_flow.proofs.laws.law_exits.Goals as goal

pub returns-clause-leading : goal.returns-clause-leading
returns-clause-leading c = goes_to_successors

pub returns-clause-edges : goal.returns-clause-edges
returns-clause-edges c = edges_of_code
