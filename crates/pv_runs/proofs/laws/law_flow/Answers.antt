use Rattle.pv_runs.proofs.Ranked.{method_ranked}
use Rattle.pv_runs.proofs.laws.law_flow.Goals as goal

pub returns : goal.returns
returns c = method_ranked
