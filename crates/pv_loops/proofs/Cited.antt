-- The laws that the proofs of other crates cite, from one place.
pub use Rattle.pv_loops.proofs.Unique.{one_forest}
pub use Rattle.pv_loops.proofs.Forested.{ranking}
