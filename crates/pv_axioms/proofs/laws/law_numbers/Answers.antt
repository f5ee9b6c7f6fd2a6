use Rattle.pv_axioms.proofs.Numbers.{numbers_once}
use Rattle.pv_axioms.proofs.laws.law_numbers.Goals as goal

pub returns : goal.returns
returns c = numbers_once
