use Rattle.pv_closings.proofs.Inducted.{induct_congruence}
use Rattle.pv_closings.proofs.laws.law_congruence.Goals as goal

pub returns : goal.returns
returns c = induct_congruence
