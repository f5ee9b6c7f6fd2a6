-- The laws that the proofs of other crates cite, from one place.
pub use Rattle.pv_scalar.proofs.Terms.{Term, lit, one, scalar_law, two, v_}
pub use Rattle.pv_scalar.proofs.Whole.{all_laws}
