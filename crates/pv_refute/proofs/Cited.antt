-- The laws that the proofs of other crates cite, from one place.
pub use Rattle.pv_refute.proofs.Runs.{found_once}
