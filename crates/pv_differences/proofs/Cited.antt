-- The laws that the proofs of other crates cite, from one place.
pub use Rattle.pv_differences.proofs.FindingWords.{no_equivalent, whole_finding}
