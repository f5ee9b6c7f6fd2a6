-- The laws that the proofs of other crates cite, from one place.
pub use Rattle.pv_outcomes.proofs.Converted.{method_converts}
