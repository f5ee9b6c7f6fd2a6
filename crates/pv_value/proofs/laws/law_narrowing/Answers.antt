use Rattle.pv_value.proofs.Narrowings.{narrowing_kept}
use Rattle.pv_value.proofs.laws.law_narrowing.Goals as goal

pub returns : goal.returns
returns c = narrowing_kept
