use Rattle.pv_counted.proofs.laws.law_counted.Goals as goal
use Rattle.pv_counted.proofs.CountedValues.{counted_value}

pub returns : goal.returns
returns c = counted_value
