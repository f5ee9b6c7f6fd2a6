-- The laws that the proofs of other crates cite, from one place.
pub use Rattle.pv_pieces.proofs.Cutting.{between_none, between_all, between_next, start_first, start_next, start_last, joined_whole, joined_pieces}
