use Rattle.pv_asm.proofs.Listed.{codes_are_listed}
use Rattle.pv_asm.proofs.laws.law_codes.Goals as goal

pub returns : goal.returns
returns c = codes_are_listed
