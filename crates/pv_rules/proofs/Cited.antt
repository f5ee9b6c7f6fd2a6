-- The laws that the proofs of other crates cite, from one place.
pub use Rattle.pv_lemmas.proofs.Cited.{derives_more, sound_lemmas, without_lemmas}
