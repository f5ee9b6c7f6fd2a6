-- The lemmas that the proofs of other crates cite, from one place.
pub use Rattle.pv_witness.proofs.Numbering.{get_first, numbered_long, numbered_node, numbered_extends, numbered_graph, first_is, numbered_stays, numbered_still}
pub use Rattle.pv_witness.proofs.Asking.{all_once}
pub use Rattle.pv_witness.proofs.Copies.{one_class, longer, copy_kept, witness_kept, has_kept, node_has}
