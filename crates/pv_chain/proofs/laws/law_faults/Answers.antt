use Rattle.pv_chain.proofs.Once.{faults_once}
use Rattle.pv_chain.proofs.laws.law_faults.Goals as goal

pub returns : goal.returns
returns c = faults_once
