-- The laws that the proofs of other crates cite, from one place.
pub use Rattle.pv_steps.proofs.Growing.{after_grown, after_same, has_sort_same}
pub use Rattle.pv_steps.proofs.Section.{graph_there, in_numbered}
pub use Rattle.pv_steps.proofs.Laws.{accepted_least, accepted_not_rejected, accepted_same, next_steps, rejected_once, right_at, whole_steps}
