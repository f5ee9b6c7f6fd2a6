-- The laws that the proofs of other crates cite, from one place.
pub use Rattle.pv_terms.proofs.Reading.{extends_stand, names_stand, reads_once, reads_one, reads_stand, same_kids, same_node, same_op, stand_then, standing_reads, tied_stand}
pub use Rattle.pv_terms.proofs.Tying.{tying_unfolds}
pub use Rattle.pv_terms.proofs.Growing.{grows_by_then, grows_same, grows_then, grows_unchanged, grows_wider, has_sort_kept, on_err, sorted_within}
pub use Rattle.pv_terms.proofs.Made.{reads_grown}
pub use Rattle.pv_terms.proofs.Naming.{name_last, names_within}
