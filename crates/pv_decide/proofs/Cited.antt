-- The laws that the proofs of other crates cite, from one place.
pub use Rattle.pv_decide.proofs.Places.{at_place, place_is, place_low}
pub use Rattle.pv_decide.proofs.Exits.{split_at}
pub use Rattle.pv_decide.proofs.Following.{inner_is}
pub use Rattle.pv_decide.proofs.Making.{edge_of, header_within, under}
