-- The laws that the proofs of other crates cite, from one place.
pub use Rattle.pv_explain.proofs.Giving.{grounds_given}
pub use Rattle.pv_explain.proofs.Inductions.{close_right, closed_pair, closes_blocks, first_instance, next_instance, opened_pair, opens_blocks, outer_goes}
