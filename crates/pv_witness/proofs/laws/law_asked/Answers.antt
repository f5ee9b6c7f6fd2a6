use Rattle.pv_witness.proofs.Asking.{all_once}
use Rattle.pv_witness.proofs.laws.law_asked.Goals as goal

pub returns : goal.returns
returns c = all_once
