-- The lemmas that the proofs of other crates cite, from one place.
pub use Rattle.pv_heights.proofs.Nest.{close-induction, close-into, joined-more}
pub use Rattle.pv_heights.proofs.Induct.{close-close, run-sound, run-full}
pub use Rattle.pv_heights.proofs.Congruent.{closest-joined, closest-in, closest-begin}
pub use Rattle.pv_heights.proofs.Terms.{joined-in, form_once}
pub use Rattle.pv_heights.proofs.Listed.{match_on, list_round, round_reached}
pub use Rattle.pv_heights.proofs.Saturation.{class_moved, stands_on_one, saturated_where}
pub use Rattle.pv_heights.proofs.Counting.{one_turn, one_chain, list_counts}
pub use Rattle.pv_heights.proofs.Instances.{stands_side, constant_op, head_same, same_number}
pub use Rattle.pv_heights.proofs.Standing.{side_stands}
pub use Rattle.pv_heights.proofs.Bases.{base_view_is}
pub use Rattle.pv_heights.proofs.Named.{filled_agrees, right_named, In-left, In-right, name_same}
pub use Rattle.pv_heights.proofs.Reached.{IsExact, reached_exact, exact_joined, exact_count, exact_saturated, saturated_reached}
pub use Rattle.pv_heights.proofs.Once.{endings_once}
pub use Rattle.pv_heights.proofs.Nodes.{node_is_base, form_some, base_is_node, graph_whole, nodes_closed}
pub use Rattle.pv_heights.proofs.Sides.{zip_open, zip_left, zip_right}
pub use Rattle.pv_heights.proofs.Both.{In-slice_get, place_of}
pub use Rattle.pv_heights.proofs.Zips.{zip_join, zip_length}
