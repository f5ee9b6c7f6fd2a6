use Rattle.pv_lemmas.proofs.Sound.{sound_lemmas}
use Rattle.pv_lemmas.proofs.laws.law_sound.Goals as goal

pub returns : goal.returns
returns c = sound_lemmas
