-- The lemmas that the proofs of other crates cite, from one place.
pub use Rattle.pv_prove.proofs.Finding.{is_verdict, no_other}
pub use Rattle.pv_prove.proofs.Meaning.{met_same}
pub use Rattle.pv_prove.proofs.ByNodes.{verdict_by_nodes}
-- what they say of searches and of the grounds of their joins
pub use Rattle.pv_heights.specs.Searches.{OneClass}
pub use Rattle.pv_grounds.specs.Rounds.{AreGrounded}
pub use Rattle.pv_grounds.specs.Same.{IsGroundedSearch}
pub use Rattle.pv_grounds.specs.Searches.{Search, IsSearch}
