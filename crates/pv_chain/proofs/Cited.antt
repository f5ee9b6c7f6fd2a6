-- The laws that the proofs of other crates cite.
pub use Rattle.pv_chain.proofs.Once.{spelled_once, faults_once}
pub use Rattle.pv_chain.proofs.Written.{few_lines}
