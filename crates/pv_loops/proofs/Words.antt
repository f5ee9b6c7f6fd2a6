-- The words of which the proofs here speak, and the laws of other crates that they cite, from one place.
pub use Rattle.std.proofs.Math.Dec.{eqb}
pub use Rattle.std.proofs.Math.Nat.{add-mul, pow-succ', pow-zero}
pub use Rattle.std.proofs.lemmas.Bool.{cases_Bool, cases_eq, cases_lt, false≢true}
pub use Rattle.std.proofs.lemmas.Bool.Decides.{Decides-eqb, eqb_tells}
pub use Rattle.std.proofs.lemmas.Cmp.{nat_eq_equiv}
pub use Rattle.std.proofs.lemmas.Fn.{always_returns_same}
pub use Rattle.std.proofs.lemmas.Grind.{same_number_lists}
pub use Rattle.std.proofs.lemmas.List.{get_or-map, get_or-replicate, get_or_append_left, get_or_default, get_or_past, get_or_push, length-map, length-replicate, reverse-append, same_lists, take_more, with_items_is}
pub use Rattle.std.proofs.lemmas.List.Elements.{All-cons, All-push, Contains-append_cases, Contains-append_left, Contains-append_right, Contains-get_or, Contains-push, Contains-push_cases}
pub use Rattle.std.proofs.lemmas.List.Sorted.{Contains-permutation, IsNonDecreasingBy-from_all_adjacent, IsNonDecreasingBy-from_sort, IsPermutation-sym, length_permutation, ranks_by}
pub use Rattle.std.proofs.lemmas.Map.Keys.{IsDistinct-IsPermutation, IsDistinct-from_apart, IsDistinct-push, IsStrictlyIncreasing-from_distinct}
pub use Rattle.std.proofs.lemmas.Map.Made.{AllPairs-from_IsDistinct}
pub use Rattle.std.proofs.lemmas.Map.Steps.{le-length_from_below, length-le_from_distinct_below}
pub use Rattle.std.proofs.lemmas.Map.Views.{Contains-from_any, list_any-from_Contains}
pub use Rattle.std.proofs.lemmas.Nat.{mul-le}
pub use Rattle.std.proofs.lemmas.Option.{get_or_from_slice_get, none-some, same_Some, slice_get_cases, slice_get_past, slice_get_read, slice_get_within}
pub use Rattle.std.specs.Cmp.{nat_cmp_is}
pub use Rattle.std.specs.Cmp.Lexicographic.{nat_list_cmp_total, slice_cmp}
pub use Rattle.std.specs.Global.{Vec}
unfoldable pub use Rattle.std.specs.List.{IsDistinct}
pub use Rattle.std.specs.List.{All, AllPairs, Contains, list_any}
pub use Rattle.std.specs.List.Sorted.{IsNonDecreasing, IsNonDecreasingBy, IsPermutation, IsSortedByKey, IsStrictlyIncreasing}
pub use Rattle.std.specs.Option.{option_eq}
pub use Rattle.std.specs.Ordering.{is_lt, nat_cmp, ordering_then}
pub use Rattle.std.specs.Vec.{with_item, with_items}
pub use Rattle.pv_loops.specs.Bodies.{AreBody, InBody, IsHead, IsOrder, Reaches, back, before}
pub use Rattle.pv_loops.specs.Forests.{AreAround, HasDepth, HasLoop, IsForest, IsHome, IsListed, IsSameLoop, NestsUpTo, inner}
pub use Rattle.pv_loops.specs.Groups.{AreGroups, Leads, Merges, Relabels, group_of, leader_of, place_of}
pub use Rattle.pv_loops.specs.Keys.{AreKeys, IsKey, key_at}
pub use Rattle.pv_loops.specs.Laws.{InnerBodies, OneForest, OutermostBodies, Ranking}
pub use Rattle.pv_loops.specs.Loops.{EdgeOf, Enters, Inside, IsConnected, IsHeader, IsLargest, IsLoop, IsWithin, Region, Way, Whole, edge, more, outermost}
pub use Rattle.pv_loops.specs.Nests.{AddsMembers, AreHeaders, Encloses, IsAlone, IsFilled, IsHomeBefore, IsMarked, IsNested, IsNext, IsParent, KeepsHomes, alone, within}
unfoldable pub use Rattle.pv_loops.specs.Outwards.{places_from}
pub use Rattle.pv_loops.specs.Outwards.{AreRows, header_at, place_and}
unfoldable pub use Rattle.pv_loops.specs.Ranks.{headers_from}
pub use Rattle.pv_loops.specs.Ranks.{Heads, IsAlong, IsArranged, IsOrdered, IsRanking, LeadsBack, around, header_and, passes, turns}
pub use Rattle.pv_loops.specs.Reductions.{AreOrdered, AreOthers, AreRest, Grouped, IsOnlySource, NoneMerges, Reduced, Reduces, Tracks}
pub use Rattle.pv_loops.specs.Shapes.{AddsSources, Edge, IsReversed, IsShape, targets}
pub use Rattle.pv_loops.specs.Steps.{AllApply, Applies, Graph, IsReducible, IsStuck, ReduceToOne, Stuck, after, after_all, graph_of, merge_steps}
pub use Rattle.pv_loops.specs.declared.fault.TStep.{TStep}
pub use Rattle.pv_loops.specs.declared.fault.TStep.TheVariants.{T1, T2}
pub use Rattle.pv_loops.specs.declared.forest.Forest.{Forest}
pub use Rattle.pv_loops.specs.declared.forest.Loop.{Loop}
pub use Rattle.pv_loops.specs.declared.forest.TheConstants.{MAX_DEPTH}
pub use Rattle.pv_loops.specs.declared.groups.Groups.{Groups}
pub use Rattle.pv_loops.specs.declared.headers.Headers.{Headers}
pub use Rattle.pv_loops.specs.declared.nest.Nest.{Nest}
pub use Rattle.pv_loops.specs.declared.reduction.Reduction.{Reduction}
