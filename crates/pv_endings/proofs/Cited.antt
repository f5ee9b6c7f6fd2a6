-- The lemma that the proofs of other crates cite.
pub use Rattle.pv_endings.proofs.Roots.{if_ok_map}
