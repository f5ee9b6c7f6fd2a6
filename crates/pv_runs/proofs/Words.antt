-- The words of which the proofs here speak, and the laws of other crates that they cite, from one place.
pub use Rattle.std.proofs.lemmas.Bool.{cases_lt, eq-eqb, eqb-true, ltb-true, or_parts}
pub use Rattle.std.proofs.lemmas.List.{get_or_past, length-append, length-map, length-replicate, reverse-append}
pub use Rattle.std.proofs.lemmas.Option.{slice_get-get_or, slice_get_within}
pub use Rattle.std.specs.List.{AllByRecursion, AllZip, list_any, sum_by}
pub use Rattle.std.specs.Prelude.{Contains, FitsSigned, Some, if◌then◌else◌, map, nat_lt, not, option_map, refl, reverse, slice_get, slice_set, suc, unwrap_or, zero, ℕ, ◌&&◌, ◌==◌, ◌||◌, ◌≡◌, ◌⊎◌}
pub use Rattle.pv_value.specs.declared.descriptor.JType.{JType}
pub use Rattle.pv_value.specs.declared.name.Sym.{Sym}
pub use Rattle.pv_pool.specs.Readers.{class_name_under, constant_of, constant_under, member_under, ◌>>=◌}
pub use Rattle.pv_class.specs.declared.file.ClassFile.{ClassFile}
pub use Rattle.pv_class.specs.declared.file.Method.{Method}
pub use Rattle.pv_insn.specs.declared.insn.Case.{Case}
pub use Rattle.pv_frame.proofs.Cited.{by_sorts, contains_cases, contains_first, contains_more, contains_none, fits_same, flows_flows, flows_itself, framed, goes_from, has_room_map, if_some, moved_map, no_some, popped_map, popped_sorts, reached_frame, set_local_map, some_of}
pub use Rattle.pv_frame.specs.Effects.{gives, sort_of_type, sort_of_word, sorts_of_result, successors, takes, test_takes}
pub use Rattle.pv_frame.specs.Frames.{AreFrames, Finds, Flows, GoesOn, IsEnd, IsFrameAt, LeadsTo, Reached, first, frame_after, frame_done, holds, next, padded_sorts, passed_to, pushed, same}
pub use Rattle.pv_frame.specs.Programs.{Does, IsAt, IsProgramOf}
pub use Rattle.pv_frame.specs.Stacks.{Taken, copied, dropped, exchanged, first_cleared, fits, has_room, is_wide, moved, none, one, popped, set_local, taken, turned, two, width, with_first}
pub use Rattle.pv_frame.specs.declared.action.Action.{Action}
pub use Rattle.pv_frame.specs.declared.action.Comparison.{Comparison}
pub use Rattle.pv_frame.specs.declared.action.Test.{Test}
pub use Rattle.pv_frame.specs.declared.frame.Frame.{Frame}
pub use Rattle.pv_frame.specs.declared.program.Program.{Program}
pub use Rattle.pv_frame.specs.declared.sort.Sort.{Sort}
pub use Rattle.pv_flow.proofs.Cited.{edges_of_code, edges_within, entry_block, goes_on, goes_to_successors}
pub use Rattle.pv_flow.specs.Blocks.{Begins, IsBlockAt, IsExit, IsFlow, IsSpan}
pub use Rattle.pv_flow.specs.Edges.{edges_of, targets_of}
pub use Rattle.pv_flow.specs.Exits.{Departure, Goes, Returns, Throws, branched, branches_on_no, departures, ends_block}
pub use Rattle.pv_flow.specs.declared.block.Block.{Block}
pub use Rattle.pv_loops.specs.Forests.{AreAround, IsForest, inner, outermost}
pub use Rattle.pv_loops.specs.Ranks.{IsRanking, around, header_and}
pub use Rattle.pv_loops.specs.declared.forest.Forest.{Forest}
pub use Rattle.pv_equations.specs.Flow.{AllBelow, Chain, Compact, Dest, End, Exit, Flow, InChain, InTests, IsFinite, LeadsBack, Leave, NamesBelow, Part, Parts, Return, Shape, Slot, To, TokenPart, call_token, calls, kept, passes, turns}
pub use Rattle.pv_runs.specs.Blocks.{acted_along, block_chain, held_first, no_chain, number_at, numbered, numbered_dest, numbered_exit, place_chain}
pub use Rattle.pv_runs.specs.Carrying.{always_carried, block_writes, carries, holds_wide, members_of, writes, writes_along, writes_heap, writes_in, writes_local}
pub use Rattle.pv_runs.specs.Chains.{branch, chain_of, chain_with, compared, end_slots, ends_method, fault_part, give, given_chain, is_zero, last_chain, narrowed_part, stores_ref, switch, test_part, throw, to, unless_null, unless_thrown, with_held, within}
pub use Rattle.pv_runs.specs.Clean.{IsClean}
pub use Rattle.pv_runs.specs.Held.{Cell, Held, acted, acted_on, after_call, by_turns, call_parts, cell_sort, clear_part, held_at, increased_cell, int_part, local_cell, local_cells, local_part, local_place, local_slot, number_part, of_cell, parts_of, push, slots_of, stack_cells, stack_part, stack_place, stack_slot, unit_part, unset, with_result}
