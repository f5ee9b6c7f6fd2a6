-- The laws that the proofs of other crates cite, from one place.
pub use Rattle.pv_live.proofs.ListLaws.{needed_agree, needed_once}
