use Rattle.pv_match.proofs.Taking.{all_known}
use Rattle.pv_match.proofs.laws.law_known.Goals as goal

pub returns : goal.returns
returns c g numbers assumed table known a congruence read all = all_known g numbers assumed table known a congruence read all
