use Rattle.pv_steps.proofs.Cited.{accepted_not_rejected, rejected_once}
use Rattle.pv_lemmas.specs.Lemmas.{ByLemmas}
use Rattle.pv_lemmas.proofs.laws.law_rejected.Goals as goal

pub returns-clause-not_both : goal.returns-clause-not_both
returns-clause-not_both c = λ lemmas. accepted_not_rejected (ByLemmas lemmas)

pub returns-clause-once : goal.returns-clause-once
returns-clause-once c = λ lemmas. rejected_once (ByLemmas lemmas)
