-- The laws that the proofs of other crates cite, from one place.
pub use Rattle.pv_conversion.proofs.Follow.{chooses_in}
pub use Rattle.pv_conversion.proofs.Machine.{after_rest}
pub use Rattle.pv_conversion.proofs.Law.{graph_blocks, graph_machine}
