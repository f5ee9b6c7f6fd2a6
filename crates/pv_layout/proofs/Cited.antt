-- The laws that the proofs of other crates cite, from one place.
pub use Rattle.pv_layout.proofs.Lists.{all_map, each_push, map_more, push_cases, zip_at, zip_each, zip_first, zip_long, zip_map}
pub use Rattle.pv_layout.proofs.Structures.{not_structured, one_shape_cause}
pub use Rattle.pv_layout.proofs.Trees.{again_tree, chains, ending_tree, entering_tree, ranked, value_tree}
pub use Rattle.pv_layout.proofs.Headers.{around_header, around_listed, depth_is, header_low, one_loop, up_none, up_own}
