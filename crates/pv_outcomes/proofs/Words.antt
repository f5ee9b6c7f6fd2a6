-- The words of which the proofs here speak, and the laws of other crates that they cite, from one place.
pub use Rattle.std.proofs.lemmas.Bool.Decides.{nat_tests}
pub use Rattle.std.proofs.lemmas.Int.{SFits-int_wrap, ints}
pub use Rattle.std.specs.Int.{cast_signed, int_bit_and, int_rem_euclid, int_wrap, w16, w32, w8}
pub use Rattle.std.specs.List.{AllByRecursion, AllZip, flat_map}
pub use Rattle.std.specs.Ordering.{int_eq}
pub use Rattle.std.specs.Prelude.{Contains, FitsSigned, List, Option, Some, [], bit_and, if◌then◌else◌, int_lt, length, map, nat_lt, option_map, replicate, slice_get, slice_set, suc, unwrap_or, ℕ, ◌%◌, ◌+ℤ◌, ◌∷◌, ◌≡◌, ◌⊎◌}
pub use Rattle.pv_value.proofs.Cited.{method_spelled, method_type_once, scalar_exact, scalar_fits, type_num}
pub use Rattle.pv_value.specs.Descriptors.{IsMethodType}
pub use Rattle.pv_value.specs.Heaps.{read, written}
pub use Rattle.pv_value.specs.Inputs.{Fits, IsOfResult, IsOfSort, IsOfType}
pub use Rattle.pv_value.specs.Narrowing.{as_type, element_type, field_place, kept, narrowed, shown, static_place}
pub use Rattle.pv_value.specs.Spelled.{bind, field_type, method_type}
pub use Rattle.pv_value.specs.Worlds.{IsWorld, length_of, literal_of, reply}
pub use Rattle.pv_value.specs.declared.descriptor.Descriptor.{Descriptor}
pub use Rattle.pv_value.specs.declared.descriptor.JType.{JType}
pub use Rattle.pv_value.specs.declared.heap.Heap.{Heap}
pub use Rattle.pv_value.specs.declared.heap.Loc.TheVariants.{Elem}
pub use Rattle.pv_value.specs.declared.name.Sym.{Sym}
pub use Rattle.pv_value.specs.declared.number.Num.{Num}
pub use Rattle.pv_value.specs.declared.operation.ScalarOp.{ScalarOp}
pub use Rattle.pv_value.specs.declared.operation.ScalarOp.TheVariants.{I2b, I2c, I2s, Iand}
pub use Rattle.pv_value.specs.declared.outcome.Fault.{Fault}
pub use Rattle.pv_value.specs.declared.outcome.Input.{Input}
pub use Rattle.pv_value.specs.declared.outcome.Outcome.{Outcome}
pub use Rattle.pv_value.specs.declared.outcome.Outcome.TheVariants.{Returned, Threw}
pub use Rattle.pv_value.specs.declared.outcome.Val.{Val}
pub use Rattle.pv_value.specs.declared.world.World.{World}
pub use Rattle.pv_pool.specs.Readers.{◌>>=◌}
pub use Rattle.pv_insn.specs.declared.insn.Case.{Case}
pub use Rattle.pv_frame.proofs.Cited.{fits_same, if_some, no_some, one_program, popped_sorts, some_of}
pub use Rattle.pv_frame.specs.Effects.{sort_of, sort_of_kind, sort_of_local, sort_of_type, sort_of_word, sorts_of_result, takes, test_takes}
pub use Rattle.pv_frame.specs.Frames.{Agrees, AreFrames, Flows, GoesOn, IsFrameAt}
pub use Rattle.pv_frame.specs.Programs.{IsAt}
pub use Rattle.pv_frame.specs.Stacks.{Taken, first_cleared, fits, has_room, is_wide, last_local, moved, popped, set_local}
pub use Rattle.pv_frame.specs.declared.action.Action.{Action}
pub use Rattle.pv_frame.specs.declared.frame.Frame.{Frame}
pub use Rattle.pv_frame.specs.declared.program.Program.{Program}
pub use Rattle.pv_frame.specs.declared.sort.Sort.{Sort}
pub use Rattle.pv_machine.proofs.Cited.{Gives, IsSound, as_type_gives, element_sort, kept_some, no_nums, of_sort_type, one_num, shape, shown_gives, starts, stays_typed, value_sort}
pub use Rattle.pv_machine.specs.Machine.{Ends, IsProgram, Now, RunEnds, State, branches, called, cast, compares, computed, divided, done, element_fault, ended, given, goes, increased, locals_of, next, num_of, number_of, of_sort, padded, passed, perform_at, performed, pushes, running, start, step, store_fault, stored, target_of, tested, throws, unless, value_of}
pub use Rattle.pv_machine.specs.Runs.{IsTypedState, frame_of}
pub use Rattle.pv_flow.proofs.Cited.{entry_block, goes_to_successors, target_or_next}
pub use Rattle.pv_flow.specs.Blocks.{Begins, IsBlockAt, IsFlow}
pub use Rattle.pv_flow.specs.declared.block.Block.{Block}
pub use Rattle.pv_loops.specs.declared.forest.Forest.{Forest}
pub use Rattle.pv_denote.proofs.Cited.{low_fits, wider}
pub use Rattle.pv_denote.specs.Denote.{Index, is_clear, numbers, operand, param_of, reply_result, result_part, scalar_on, scalar_value, strict, truth}
pub use Rattle.pv_equations.specs.Flow.{Chain, Dest, End, Exit, Flow, InChain, Kind, Leave, More, NoPart, Of, Part, Parts, Return, Slot, Test, Throw, To, call_token}
pub use Rattle.pv_conversion.proofs.Cited.{after_rest, chooses_in, graph_machine}
pub use Rattle.pv_conversion.specs.Outcomes.{Finishes, Goes, IsOutcome, MachineEnds, Next, Stops, after}
pub use Rattle.pv_conversion.specs.Runs.{Chooses, Left, PartIs, PartsAre, Runnable, Starts, Steps, Waits}
pub use Rattle.pv_runs.proofs.Cited.{Chained, Departs, IsBlock, IsSimple, Kept, acted_token, bound, chain_at, chained, ends, exit_departs, goes_on, goes_place, has_exits, in_numbered, lists_found, mapped, method_ranked, moved_both, number_is, popped_both, program_clean, taken_found, turns_both, turns_local, turns_stack}
pub use Rattle.pv_runs.specs.Chains.{aeq, asks_class, branch, chain_of, chain_with, compared, end_slots, ends_method, fault_part, fits_part, give, given_chain, ieq, ilt, is_part, is_zero, last_chain, narrowed_part, start_part, stores_ref, switch, test_part, throw, thrown_literal, to, two_parts, unless_null, unless_other, unless_thrown, unless_unfit, with_held, within}
pub use Rattle.pv_runs.specs.Clean.{EndsWell, IsClean, IsCleanProgram}
pub use Rattle.pv_runs.specs.Held.{Cell, Held, acted, acted_on, after_call, by_turns, call_parts, cell_sort, held_at, increased_cell, int_part, local_cell, local_cells, local_part, local_slot, null_part, number_part, of_cell, parts_of, push, slots, slots_of, stack_cells, stack_part, stack_slot, unit_part, unset, with_result}
pub use Rattle.pv_runs.specs.Methods.{flow_of}
pub use Rattle.pv_outcomes.specs.Matches.{InRange, LocalIs, Matches, StackIs}
