-- The laws that other crates cite.
pub use Rattle.pv_cert.proofs.EachText.{spelled_once, faults_once, spelled_or_bad}
