use Rattle.pv_grounds.proofs.Sameness.{classes_same}
use Rattle.pv_grounds.proofs.laws.law_same.Goals as goal

pub returns : goal.returns
returns c = classes_same
