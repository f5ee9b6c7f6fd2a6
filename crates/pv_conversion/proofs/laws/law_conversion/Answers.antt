-- The law of the conversion.
use Rattle.pv_conversion.proofs.Law.{conversion}
use Rattle.pv_conversion.proofs.laws.law_conversion.Goals as goal

pub returns : goal.returns
returns c = conversion
