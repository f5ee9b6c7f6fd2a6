use Rattle.pv_outcomes.proofs.Converted.{method_converts}
use Rattle.pv_outcomes.proofs.laws.law_method.Goals as goal

pub returns : goal.returns
returns c = method_converts
