use Rattle.pv_asm.proofs.Described.{lines_are_class}
use Rattle.pv_asm.proofs.laws.law_lines.Goals as goal

pub returns : goal.returns
returns c = lines_are_class
