use Rattle.pv_asm.proofs.Listed.{lines_are_listed}
use Rattle.pv_asm.proofs.laws.law_line_codes.Goals as goal

pub returns : goal.returns
returns c = lines_are_listed
