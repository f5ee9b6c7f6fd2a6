-- The words of which the proofs here speak, and the laws of other crates that they cite, from one place.
pub use Rattle.std.proofs.Math.Seq.{drop-append_seam, take-append_seam}
pub use Rattle.std.proofs.lemmas.Bool.Decides.{Decides-int_eq}
pub use Rattle.std.proofs.lemmas.Cmp.{eq_by_cmp_equiv}
pub use Rattle.std.proofs.lemmas.Int.{to_z-of_z}
pub use Rattle.std.proofs.lemmas.List.{length-map, length-reverse, map-append, reverse-append, reverse-reverse, take_rest}
pub use Rattle.std.proofs.lemmas.List.Sums.{sum_by-cons}
pub use Rattle.std.proofs.lemmas.Option.{slice_get_past, slice_get_read}
pub use Rattle.std.proofs.lemmas.Result.{err_from_is_err_and, on_err_weaker}
pub use Rattle.std.specs.Cmp.{nat_cmp_total}
pub use Rattle.std.specs.FinMap.{FinMap, empty, get, get-empty, get-insert, insert}
unfoldable pub use Rattle.std.specs.Int.{int_wrap}
pub use Rattle.std.specs.List.{AllByRecursion, AllZip, flat_map}
pub use Rattle.std.specs.Ordering.{eq_by_cmp, int_eq, is_eq}
pub use Rattle.std.specs.declared.cmp.Ordering.{Ordering}
pub use Rattle.std.specs.declared.cmp.Ordering.TheVariants.{Equal, Greater, Less}
pub use Rattle.pv_value.proofs.Cited.{method_type_once, read_same, receivers_apart}
pub use Rattle.pv_value.specs.CallOrder.{key_cmp}
pub use Rattle.pv_value.specs.Descriptors.{IsMethodType}
pub use Rattle.pv_value.specs.Heaps.{read, written}
pub use Rattle.pv_value.specs.Inputs.{IsOfResult, IsOfSort, IsOfType}
pub use Rattle.pv_value.specs.Laws.{CallsOrdered}
pub use Rattle.pv_value.specs.Narrowing.{as_type, element_type, field_place, kept, shown, static_place}
pub use Rattle.pv_value.specs.Order.{loc_cmp}
pub use Rattle.pv_value.specs.Worlds.{IsWorld, empty_world, home, is_boolean, length_of, literal_of, reply}
pub use Rattle.pv_value.specs.declared.descriptor.Descriptor.{Descriptor}
pub use Rattle.pv_value.specs.declared.descriptor.JType.{JType}
pub use Rattle.pv_value.specs.declared.descriptor.JType.TheVariants.{A, B, C, D, F, I, J, S, Z}
pub use Rattle.pv_value.specs.declared.heap.Heap.{Heap}
pub use Rattle.pv_value.specs.declared.heap.Kind.{Kind}
pub use Rattle.pv_value.specs.declared.heap.Loc.{Loc}
pub use Rattle.pv_value.specs.declared.heap.Loc.TheVariants.{Elem, Field, Static}
pub use Rattle.pv_value.specs.declared.memory.Memory.{Memory}
pub use Rattle.pv_value.specs.declared.name.Sym.{Sym}
pub use Rattle.pv_value.specs.declared.number.Num.{Num}
pub use Rattle.pv_value.specs.declared.number.Num.TheVariants.{Int, Long, Ref}
pub use Rattle.pv_value.specs.declared.operation.ScalarOp.{ScalarOp}
pub use Rattle.pv_value.specs.declared.outcome.Fault.{Fault}
pub use Rattle.pv_value.specs.declared.outcome.Input.{Input}
pub use Rattle.pv_value.specs.declared.outcome.Outcome.{Outcome}
pub use Rattle.pv_value.specs.declared.outcome.Outcome.TheVariants.{Returned, Threw}
pub use Rattle.pv_value.specs.declared.world.CallKey.{CallKey}
pub use Rattle.pv_value.specs.declared.world.World.{World}
pub use Rattle.pv_pool.specs.Readers.{◌>>=◌}
pub use Rattle.pv_pool.specs.declared.constant.Constant.{Constant}
pub use Rattle.pv_pool.specs.declared.constant.Member.{Member}
pub use Rattle.pv_pool.specs.declared.entry.Entry.{Entry}
pub use Rattle.pv_class.specs.declared.file.ClassFile.{ClassFile}
pub use Rattle.pv_class.specs.declared.file.Code.{Code}
pub use Rattle.pv_class.specs.declared.file.Method.{Method}
pub use Rattle.pv_insn.proofs.Cited.{IsBytes, one_code}
pub use Rattle.pv_insn.specs.declared.insn.Case.{Case}
pub use Rattle.pv_insn.specs.declared.insn.Insn.{Insn}
pub use Rattle.pv_insn.specs.declared.insn.Placed.{Placed}
pub use Rattle.pv_frame.proofs.Cited.{by_sorts, fits_same, flows_flows, goes_from, has_room_map, if_some, moved_map, no_some, one_program, popped_map, popped_sorts, set_local_is, set_local_map, some_of}
pub use Rattle.pv_frame.specs.Actions.{ActsWith, IsFloatless, LoadsConstant, UsesMember, branch_rows, cases_from, class_rows, field_rows, local_rows, plain_rows, row_of}
pub use Rattle.pv_frame.specs.Answers.{AnswersOnly}
pub use Rattle.pv_frame.specs.Causes.{IsAccepted}
pub use Rattle.pv_frame.specs.Effects.{asked, gives, sort_of, sort_of_kind, sort_of_local, sort_of_type, sort_of_word, sorts_of_result, successors, takes, test_takes}
pub use Rattle.pv_frame.specs.Frames.{Agrees, Finds, Flows, GoesOn, HasFrames, IsEnd, IsFrameAt, IsTyped, LeadsTo, Leaves, entry_frame, frame_after, frame_done, holds, local_holds, padded_sorts, passed_to, pushed, same, sorts_of, this_sorts}
pub use Rattle.pv_frame.specs.Programs.{IsAt, IsProgramOf}
pub use Rattle.pv_frame.specs.Stacking.{lost_before, taken_by}
pub use Rattle.pv_frame.specs.Stacks.{Taken, copied, fits, has_room, moved, popped, set_local, taken, turned, width, with_first}
pub use Rattle.pv_frame.specs.declared.action.Action.{Action}
pub use Rattle.pv_frame.specs.declared.action.Comparison.{Comparison}
pub use Rattle.pv_frame.specs.declared.action.Move.{Move}
pub use Rattle.pv_frame.specs.declared.action.Test.{Test}
pub use Rattle.pv_frame.specs.declared.cause.Cause.{Cause}
pub use Rattle.pv_frame.specs.declared.cause.Refused.{Refused}
pub use Rattle.pv_frame.specs.declared.frame.Frame.{Frame}
pub use Rattle.pv_frame.specs.declared.program.Program.{Program}
pub use Rattle.pv_frame.specs.declared.sort.Sort.{Sort}
pub use Rattle.pv_frame.specs.declared.typed.Typed.{Typed}
pub use Rattle.pv_frame.specs.declared.stack.Part.{Part}
pub use Rattle.pv_frame.specs.declared.used.Use.{Use}
unfoldable pub use Rattle.pv_machine.specs.Callees.{after_over}
pub use Rattle.pv_machine.specs.Callees.{AreCallees, Callees, DifferInReplies, EndsOver, FinitelyManyReplies, HasRepliesOf, IsPartOf, MoreReplies, OverItsOwn, RunEndsOver, SameOverCallees, answer, callees_of, done_over, go_on_over, is_fact, perform_at_over, step_over}
pub use Rattle.pv_machine.specs.Doing.{Accesses, Acts, Asks, Does, IsAccess, IsNumber, IsPlain, KeepsHeap, Lacks, Reads, element_and_number_of, element_and_ref_of, element_of}
pub use Rattle.pv_machine.specs.InMemory.{StackInMemory, StateInMemory}
unfoldable pub use Rattle.pv_machine.specs.Machine.{after}
pub use Rattle.pv_machine.specs.Machine.{Ends, Now, RunEnds, State, branches, called, compares, computed, divided, done, element_fault, ended, given, go_on, increased, keeps, local, locals_of, next, num_of, number_of, of_sort, padded, passed, perform, perform_at, performed, pushes, running, start, step, store_fault, stored, target_of, tested, throws, unless, value_of, writes}
pub use Rattle.pv_machine.specs.Moves.{IsTaken, size, values}
pub use Rattle.pv_machine.specs.Operands.{lie_on}
pub use Rattle.pv_machine.specs.Programs.{IsRefusedAt, RefusesAs}
pub use Rattle.pv_machine.specs.Runs.{Calls, EndsOnce, IsTypedState, MethodEndsOnce, NeverStuck, Proceeds, Waits, frame_of}
pub use Rattle.pv_machine.specs.Steps.{IsOverfull, IsQuiet, IsQuietAt, IsReached, below, now_of}
pub use Rattle.pv_machine.specs.declared.effect.Effect.{Effect}
pub use Rattle.pv_machine.specs.declared.moves.Block.{Block}
