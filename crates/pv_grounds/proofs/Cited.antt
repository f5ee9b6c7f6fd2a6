-- The lemmas that the proofs of other crates cite, from one place.
pub use Rattle.pv_grounds.proofs.Staying.{NodesStay, join_stays, joins_stay, block_stays}
pub use Rattle.pv_grounds.proofs.Given.{given_stays, grounds_stay, ground_stays}
pub use Rattle.pv_grounds.proofs.Rounding.{new_grounded, owed_given, owed_grounds, induct_grounded, grown_grounded, joined_grounded, round_grounded}
pub use Rattle.pv_grounds.proofs.Sameness.{classes_same}
