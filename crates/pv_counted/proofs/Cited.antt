-- The laws that the proofs of other crates cite, from one place.
pub use Rattle.pv_counted.proofs.ClearedOnce.{cleared_kept, cleared_once}
