-- The laws that the proofs of other crates cite, from one place.
pub use Rattle.pv_asm.proofs.Together.{methods_have_class}
