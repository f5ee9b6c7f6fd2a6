-- The laws that the proofs of other crates cite, from one place.
pub use Rattle.pv_prove.proofs.Cited.{verdict_by_nodes}
