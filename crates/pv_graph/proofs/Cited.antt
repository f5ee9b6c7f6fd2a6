-- The laws that the proofs of other crates cite, from one place.
pub use Rattle.pv_graph.proofs.Elements.{found, get_front, get_last, push_cases}
pub use Rattle.pv_graph.proofs.Sorting.{KidCount, ShapeTakes, exactly_are, if_some, kid_count, same_sort_is, shape_takes, theta_depth, zip_length}
pub use Rattle.pv_graph.proofs.Bisimulations.{Bisimulates, Matched, Simulates, bisimulates_flip, bisimulates_simulates, bisimulates_unfolds, unfolds_bisimulates}
pub use Rattle.pv_graph.proofs.NodeLaws.{HasSortAt, bind_some, form_there, graph_sorted, growth_unfolds, in_or_not, in_range, kid_within, node_at, sort_there, tied, unfold_of}
pub use Rattle.pv_graph.proofs.Grounded.{AreFlat, Grounded, IsFlat, all_grounded, first_sort, flat_edge, flat_first, flat_unless, grounded, none_left, theta_or_not, theta_takes}
pub use Rattle.pv_graph.proofs.CallLaws.{added_extends, added_made, begun_extends, begun_made, empty_made, sealed_made}
pub use Rattle.pv_graph.proofs.SameNodes.{renumbers, same_nodes, same_or_other}
pub use Rattle.pv_graph.proofs.SortSteps.{field_read}
pub use Rattle.pv_graph.proofs.Appending.{appended_graph}
pub use Rattle.pv_graph.proofs.Keeping.{new_added}
pub use Rattle.pv_graph.proofs.Tying.{equal_or_not, set_length, set_other, set_same}
pub use Rattle.pv_graph.proofs.Reaching.{in_at, in_cases, in_front, in_last}
pub use Rattle.pv_graph.proofs.BaseLaws.{bases_are_made}
pub use Rattle.pv_graph.proofs.TieRule.{tie_keeps_rule}
