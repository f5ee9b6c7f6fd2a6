use Rattle.pv_steps.proofs.Cited.{accepted_same, accepted_least}
use Rattle.pv_lemmas.specs.Lemmas.{ByLemmas}
use Rattle.pv_lemmas.proofs.Sound.{sound_lemmas}
use Rattle.pv_lemmas.proofs.laws.law_accepted.Goals as goal

pub returns : goal.returns
returns c = record { same = λ lemmas. accepted_same (ByLemmas lemmas) (sound_lemmas lemmas); least = λ lemmas. accepted_least (ByLemmas lemmas) (sound_lemmas lemmas) }
