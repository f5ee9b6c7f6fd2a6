-- The lemmas that the proofs of other crates cite, from one place.
pub use Rattle.pv_saturate.proofs.Lists.{get_in, in_get}
