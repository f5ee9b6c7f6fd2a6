-- The laws that the proofs of other crates cite, from one place.
pub use Rattle.pv_flow.proofs.Departing.{goes_on, goes_to_successors, target_or_next}
pub use Rattle.pv_flow.proofs.Flows.{edges_of_code, edges_reach, edges_within, entry_block}
pub use Rattle.pv_flow.proofs.OneFlow.{one_flow}
