-- The laws that the proofs of other crates cite, from one place.
pub use Rattle.pv_denote.proofs.Values.{With, den_makes, den_says, value_once}
pub use Rattle.pv_denote.proofs.Indices.{at_at, at_id, at_other, at_same}
pub use Rattle.pv_denote.proofs.Mapped.{Moves, Stays, means_map}
pub use Rattle.pv_denote.proofs.Simulated.{unfolds_value}
pub use Rattle.pv_denote.proofs.Independent.{closed_value, not_free, spine_has, value_says}
pub use Rattle.pv_denote.proofs.Typing.{low_fits, wider}
pub use Rattle.pv_denote.proofs.GraphLaws.{growth_law, settled_law, sort_law}
