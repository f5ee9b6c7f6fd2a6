-- What lemmas show.
use Rattle.std.specs.Prelude.{List}
use Rattle.pv_steps.specs.declared.step.Lemma.{Lemma}
use Rattle.pv_steps.specs.Laws.{AreSound, AcceptedSame, AcceptedLeast, AcceptedNotRejected, RejectedOnce}
use Rattle.pv_lemmas.specs.Lemmas.{ByLemmas}

-- the axioms and the accepted lemmas are sound
abbrev pub Sound : Type 0
Sound = (lemmas : List Lemma) → AreSound (ByLemmas lemmas)

-- an accepted section that uses lemmas makes its roots the same; over the least graph of two nodes it makes these the same
pub record Accepted : Type 0 where
  pub same : (lemmas : List Lemma) → AcceptedSame (ByLemmas lemmas)
  pub least : (lemmas : List Lemma) → AcceptedLeast (ByLemmas lemmas)

-- an accepted section isn't rejected
abbrev pub NotRejected : Type 0
NotRejected = (lemmas : List Lemma) → AcceptedNotRejected (ByLemmas lemmas)

-- a section is rejected with one number
abbrev pub Once : Type 0
Once = (lemmas : List Lemma) → RejectedOnce (ByLemmas lemmas)
