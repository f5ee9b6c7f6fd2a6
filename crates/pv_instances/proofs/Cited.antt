-- The lemmas that the proofs of other crates cite, from one place.
pub use Rattle.pv_instances.proofs.Growing.{if_ok_more, mapped_at, mapped_more, same_extends, extends_both, form_kept, sorts_kept, added_grows, added_distinct, nothing_new, grows_both, sort_is}
pub use Rattle.pv_instances.proofs.Table.{all_kept}
pub use Rattle.pv_instances.proofs.ClassSorts.{congruent, sides_have_sorts}
pub use Rattle.pv_instances.proofs.MadeInstances.{both_can}
