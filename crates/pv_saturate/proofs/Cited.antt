-- The lemmas that the proofs of other crates cite, from one place.
pub use Rattle.pv_saturate.proofs.Matching.{sides_named, same_is_match, same_are_all, each_shown, decoded_are_all, left_stands, can_choose}
pub use Rattle.pv_saturate.proofs.Certifying.{certified}
