-- The lemmas that the proofs of other crates cite, from one place.
pub use Rattle.pv_closings.proofs.Same.{joined_there, joined_back, one_there, one_back}
pub use Rattle.pv_closings.proofs.Inducted.{induct_joins, first_joins, joined_congruence, induct_congruence}
