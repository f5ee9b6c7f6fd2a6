use Rattle.pv_asm.proofs.Described.{entries_once}
use Rattle.pv_asm.proofs.laws.law_once.Goals as goal

pub returns : goal.returns
returns c = entries_once
