-- The laws that the proofs of other crates cite, from one place.
pub use Rattle.pv_lemmas.proofs.Sound.{sound_lemmas}
pub use Rattle.pv_lemmas.proofs.More.{derives_more, without_lemmas}
pub use Rattle.pv_lemmas.proofs.Prepared.{by_lemmas_prepared, in_lemma_prepared}
