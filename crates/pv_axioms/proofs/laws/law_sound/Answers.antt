use Rattle.pv_axioms.proofs.Sound.{sound}
use Rattle.pv_axioms.proofs.laws.law_sound.Goals as goal

pub returns : goal.returns
returns c = sound
