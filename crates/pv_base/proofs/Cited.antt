-- The laws that the proofs of other crates cite, from one place.
pub use Rattle.pv_base.proofs.Kept.{are_bytes}
pub use Rattle.pv_base.proofs.Records.{more_more}
