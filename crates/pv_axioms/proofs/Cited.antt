-- The laws that the proofs of other crates cite, from one place.
pub use Rattle.pv_axioms.proofs.Numbers.{all_are, core_are}
pub use Rattle.pv_axioms.proofs.SameNodes.{same_instance}
pub use Rattle.pv_axioms.proofs.Sound.{binds_names, sound}
