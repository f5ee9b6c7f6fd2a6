-- The laws that the proofs of other crates cite, from one place.
pub use Rattle.pv_top.proofs.Saying.{silent}
pub use Rattle.pv_top.proofs.Replying.{nothing_asked, nothing_left}
