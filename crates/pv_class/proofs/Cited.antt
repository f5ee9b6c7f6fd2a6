-- The laws that the proofs of other crates cite, from one place.
pub use Rattle.pv_class.proofs.Outcomes.{answer_once, memory_no_fault}
pub use Rattle.pv_class.proofs.CodeBytes.{HasBytes, class_bytes}
