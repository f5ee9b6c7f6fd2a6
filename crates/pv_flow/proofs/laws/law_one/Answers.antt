use Rattle.pv_flow.proofs.OneFlow.{one_flow}
use Rattle.pv_flow.proofs.laws.law_one.Goals as goal

pub returns : goal.returns
returns c = one_flow
