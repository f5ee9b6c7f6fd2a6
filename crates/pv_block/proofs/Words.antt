-- The words of which the proofs here speak, and the laws of other crates that they cite, from one place.
pub use Rattle.std.proofs.lemmas.List.{drop_all, length-reverse, reverse-append}
pub use Rattle.std.proofs.lemmas.Option.{slice_get_past, slice_get_read}
pub use Rattle.std.proofs.lemmas.Result.{IfOk-weaker}
pub use Rattle.std.specs.List.{AllByRecursion, AllZip}
pub use Rattle.std.specs.Prelude.{Contains, IfSome, if◌then◌else◌, map, nat_lt, option_map, reverse, slice_get, slice_index_or, slice_set, ◌&&◌, ◌==◌, ◌⊎◌}
pub use Rattle.pv_value.specs.Spelled.{bind, field_type}
pub use Rattle.pv_value.specs.declared.descriptor.Descriptor.{Descriptor}
pub use Rattle.pv_value.specs.declared.descriptor.JType.{JType}
pub use Rattle.pv_value.specs.declared.name.Sym.{Sym}
pub use Rattle.pv_pool.specs.Readers.{◌>>=◌}
pub use Rattle.pv_frame.proofs.Cited.{fits_same, if_some, map_reverse, no_some, popped_sorts, some_of}
pub use Rattle.pv_frame.specs.Effects.{sort_of_kind, sort_of_type, sort_of_word, sorts_of_result, successors, takes, test_takes}
pub use Rattle.pv_frame.specs.Programs.{IsAt}
pub use Rattle.pv_frame.specs.Stacks.{Taken, first_cleared, fits, has_room, is_wide, last_local, moved, popped, set_local, turned, with_first}
pub use Rattle.pv_frame.specs.declared.action.Action.{Action}
pub use Rattle.pv_frame.specs.declared.action.Move.{Move}
pub use Rattle.pv_frame.specs.declared.program.Program.{Program}
pub use Rattle.pv_frame.specs.declared.sort.Sort.{Sort}
pub use Rattle.pv_graph.specs.Calls.{FitsOver}
pub use Rattle.pv_graph.specs.Graphs.{Graph, IsGraph}
pub use Rattle.pv_graph.specs.Ops.{CallSorts, HasSort, HaveSorts, Shape, call_sorts, exactly, field_sort, kind_sort, plain, result_sort, same_sort, same_sorts, shape, sort_over, type_sort, type_sorts, word_sort}
pub use Rattle.pv_graph.specs.declared.node.Node.{Node}
pub use Rattle.pv_graph.specs.declared.node.Op.{Op}
pub use Rattle.pv_graph.specs.declared.node.OpSort.{OpSort}
pub use Rattle.pv_graph.specs.declared.node.OpSort.TheVariants.{A, F, H, I, L, N, R, T}
pub use Rattle.pv_equations.specs.Flow.{Chain, Dest, End, Exit, InChain, Kind, Leave, More, NoPart, Of, Part, Parts, Slot, To, call_token, put, put_all}
pub use Rattle.pv_terms.proofs.Cited.{extends_stand, grows_same, grows_then, names_stand, stand_then, standing_reads}
pub use Rattle.pv_terms.specs.Reads.{ReadAll, Reads, Stand}
pub use Rattle.pv_terms.specs.Terms.{Grows, HasItsSort, IsFlat, IsOfSort, ReadsBoth, ReadsOver, has_depth}
pub use Rattle.pv_runs.proofs.Cited.{Chained, Departs, HeldAt, bound, chained_at, exit_departs, has_exits, leads_typed, lists_found, mapped, moved_both, popped_both, sorts_held, taken_found, turns_both, turns_local, turns_stack}
pub use Rattle.pv_runs.specs.Blocks.{acted_along, place_chain}
pub use Rattle.pv_runs.specs.Chains.{aeq, chain_of, chain_with, end_slots, ends_method, give, given_chain, ieq, is_zero, last_chain, throw, to}
pub use Rattle.pv_runs.specs.Held.{acted, acted_on, after_call, by_turns, call_parts, cell_sort, clear_part, held_at, increased_cell, int_part, local_cell, local_cells, local_part, local_place, local_slot, null_part, of_cell, parts_of, push, slots, slots_of, stack_cells, stack_part, stack_place, stack_slot, unit_part, unset, with_result}
pub use Rattle.pv_block.specs.Acting.{Acts, ActsAlong, ActsOn, popped_in, rearranged, shifted}
pub use Rattle.pv_block.specs.Cells.{cell_of, empty, local_of, lost_before, sort_in, stored}
pub use Rattle.pv_block.specs.Effects.{ChangeFits, EffectFits, HoldsAfter, SortedAfter, call, cell_part, changed, changed_parts, effect_for, effect_parts, given_nodes, given_parts, node_in, pushes, read_in, read_parts, sorts_read, writes}
pub use Rattle.pv_block.specs.Leaving.{AreKnown, AreSortedExits, AreTests, EndsFor, GivesResult, HoldsFirst, IsExit, IsSortedLeaving, IsSortedState, LeavesAlong, LeavesAs, LeavesBy, LeavesFrom, StateStands, chain_from, ended, faulted, state_of}
pub use Rattle.pv_block.specs.Lines.{AreMade, Fit, Stands, after_first, all_made, but_first, line, node_at, nodes_for, part_made, part_over, parts_in, pick, sort_made, taken}
pub use Rattle.pv_block.specs.Plain.{ArePlain, IsPlain}
pub use Rattle.pv_block.specs.Ran.{BeginsAt, ExitStands, FitsFrame, FitsSort, IsCellOf, IsSortedEnding, IsSortedExit, IsSortedRan, IsStateOf, RanFor, RunsAlong, ending_slot, entry_of, known_by, local_node, node_of_cell, slot_of, stack_node}
pub use Rattle.pv_block.specs.Rows.{KeepsSorts, LeavesByRow, RowFits, WayFits, branch, case_exits, case_lines, case_tests, chain_by, exit_by, leaving_by, row_chain, row_for, switch, unless_null_or_thrown, unless_thrown, unless_zero, with_int, with_int_node}
pub use Rattle.pv_block.specs.Sorted.{AreSorted, IsSorted, IsSortedCell, op_sort}
pub use Rattle.pv_block.specs.Standing.{AllStand, CellStands, Entry, HoldsFor, IsEntered, StandsFor, StandsOver}
pub use Rattle.pv_block.specs.declared.effect.Effect.{Effect}
pub use Rattle.pv_block.specs.declared.held.Cell.{Cell}
pub use Rattle.pv_block.specs.declared.held.Held.{Held}
pub use Rattle.pv_block.specs.declared.line.Kid.{Kid}
pub use Rattle.pv_block.specs.declared.line.Kid.TheVariants.{Given, Made}
pub use Rattle.pv_block.specs.declared.line.Kids.{Kids}
pub use Rattle.pv_block.specs.declared.line.Kids.TheVariants.{One, Operands, Three, Two, WithHeap, Zero}
pub use Rattle.pv_block.specs.declared.line.Line.{Line}
pub use Rattle.pv_block.specs.declared.ran.Ending.{Ending}
pub use Rattle.pv_block.specs.declared.ran.Leaving.{Leaving}
pub use Rattle.pv_block.specs.declared.ran.Leaving.TheVariants.{Goes, Returns, Throws}
pub use Rattle.pv_block.specs.declared.ran.Ran.{Ran}
pub use Rattle.pv_block.specs.declared.row.Row.{Row}
