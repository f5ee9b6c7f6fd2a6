use Rattle.pv_cert.proofs.EachText.{faults_once}
use Rattle.pv_cert.proofs.laws.law_faults.Goals as goal

pub returns : goal.returns
returns c = faults_once
