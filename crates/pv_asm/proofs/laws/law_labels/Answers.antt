use Rattle.pv_asm.proofs.Standing.{labels_stand}
use Rattle.pv_asm.proofs.laws.law_labels.Goals as goal

pub returns : goal.returns
returns c = labels_stand
