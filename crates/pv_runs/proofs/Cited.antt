-- The laws that the proofs of other crates cite, from one place.
pub use Rattle.pv_runs.proofs.Options.{bound, mapped}
pub use Rattle.pv_runs.proofs.Related.{lists_found, moved_both, popped_both, taken_found}
pub use Rattle.pv_runs.proofs.Turns.{turns_both, turns_local, turns_stack}
pub use Rattle.pv_runs.proofs.Clean.{program_clean}
pub use Rattle.pv_runs.proofs.Actions.{IsBlock, IsSimple, ends, goes_on}
pub use Rattle.pv_runs.proofs.Tokens.{Kept, acted_token}
pub use Rattle.pv_runs.proofs.Frames.{frame_long}
pub use Rattle.pv_runs.proofs.Typed.{Chained, HeldAt, chained, chained_at, leads_typed, sorts_held, typed_chain}
pub use Rattle.pv_runs.proofs.Departures.{Departs, exit_departs, exits_of, has_exits}
pub use Rattle.pv_runs.proofs.Edges.{chain_at, edge_exit, exit_edge, goes_place, has_chain, in_numbered, number_is}
pub use Rattle.pv_runs.proofs.Members.{in_shape, member_of}
pub use Rattle.pv_runs.proofs.Ranked.{method_ranked}
