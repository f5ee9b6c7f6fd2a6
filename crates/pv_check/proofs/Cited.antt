-- The laws that the proofs of other crates cite, from one place.
pub use Rattle.pv_check.proofs.Carried.{adds_same, prepared_as, right_same}
