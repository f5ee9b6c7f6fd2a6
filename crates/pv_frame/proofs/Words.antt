-- The words of which the proofs here speak, and the laws of other crates that they cite, from one place.
pub use Rattle.std.proofs.Math.ListN.{length-set}
pub use Rattle.std.proofs.lemmas.Bool.{and_parts, cases_eq, cases_lt}
pub use Rattle.std.proofs.lemmas.Bool.Decides.{nat_tests}
pub use Rattle.std.proofs.lemmas.Int.{ints, to_z-of_z, to_z_pos}
pub use Rattle.std.proofs.lemmas.List.{drop_all, drop_more, length-map, length-replicate, length-reverse, map-append, reverse-append, reverse-reverse, take_more}
pub use Rattle.std.proofs.lemmas.List.Elements.{Contains-append_left, Contains-append_right, Contains-push, Contains-push_cases}
pub use Rattle.std.proofs.lemmas.List.Sums.{sum_by-set}
pub use Rattle.std.proofs.lemmas.Option.{get_or_from_slice_get, slice_get_read, slice_get_within}
pub use Rattle.std.proofs.lemmas.Result.{err_from_is_err_and}
pub use Rattle.std.proofs.lemmas.Slice.Zip.{AllZip-long, all_zipped_more}
pub use Rattle.std.specs.List.{AllByRecursion, AllZip, flat_map, list_all}
pub use Rattle.std.specs.Option.{option_map, option_or}
pub use Rattle.pv_value.proofs.Cited.{field_type_once, method_type_once}
pub use Rattle.pv_value.specs.Descriptors.{IsFieldType, IsLetter, IsMethodType}
pub use Rattle.pv_value.specs.Receivers.{receiver_sym, with_receiver}
pub use Rattle.pv_value.specs.declared.descriptor.Descriptor.{Descriptor}
pub use Rattle.pv_value.specs.declared.descriptor.JType.{JType}
pub use Rattle.pv_value.specs.declared.descriptor.JType.TheVariants.{A, D, F, I, J}
pub use Rattle.pv_value.specs.declared.name.Sym.{Sym}
pub use Rattle.pv_value.specs.declared.receiver.Form.{Form}
pub use Rattle.pv_value.specs.declared.receiver.Form.TheVariants.{Interface, Special, Virtual}
pub use Rattle.pv_list.proofs.Cited.{all_map, all_push, same_lists}
pub use Rattle.pv_pool.specs.Pools.{HasText, Refers, cell_of, cells, entry_under}
pub use Rattle.pv_pool.specs.Readers.{class_name_under, constant_of, constant_under, member_under, text_of, text_under, ◌>>=◌}
pub use Rattle.pv_pool.specs.declared.constant.Constant.{Constant}
pub use Rattle.pv_pool.specs.declared.constant.Member.{Member}
pub use Rattle.pv_pool.specs.declared.entry.Entry.{Entry}
pub use Rattle.pv_pool.specs.declared.entry.Entry.TheVariants.{Class, Double, Fieldref, Float, Integer, Long, Methodref, NameAndType, Text, Utf8}
pub use Rattle.pv_class.specs.declared.file.ClassFile.{ClassFile}
pub use Rattle.pv_class.specs.declared.file.Code.{Code}
pub use Rattle.pv_class.specs.declared.file.Method.{Method}
pub use Rattle.pv_insn.proofs.Cited.{IsBytes, IsFormed, code_once, fault_once, few, float_code, formed, good_or_bad}
pub use Rattle.pv_insn.specs.Codes.{IsCode, IsPlaced}
pub use Rattle.pv_insn.specs.Faults.{IsBad}
unfoldable pub use Rattle.pv_insn.specs.Forms.{form_of}
pub use Rattle.pv_insn.specs.declared.fault.CodeFault.{CodeFault}
pub use Rattle.pv_insn.specs.declared.insn.Case.{Case}
pub use Rattle.pv_insn.specs.declared.insn.Insn.{Insn}
pub use Rattle.pv_insn.specs.declared.insn.Placed.{Placed}
pub use Rattle.pv_frame.specs.Acting.{AreActing, HasItsText, IsActionOr, IsFirstOf, OnCause}
pub use Rattle.pv_frame.specs.Actions.{AccessesField, Acts, ActsWith, CallsOn, CallsStatic, HasFloatlessResult, IsFloatless, IsFloatlessMethod, IsUse, LoadsConstant, MayName, UsesMember, arithmetic_rows, branch_rows, cases_from, class_rows, constant_rows, element_load_rows, element_store_rows, end_rows, field_rows, form_rows, load_rows, loads_narrow, loads_wide, local_rows, move_rows}
pub use Rattle.pv_frame.specs.Actions.{names_class, plain_rows, row_of, store_rows, use_of, use_of_class, use_of_constant, use_of_member}
pub use Rattle.pv_frame.specs.Answers.{HasCode, IsAnswer, IsOnly, IsTyping, Said}
pub use Rattle.pv_frame.specs.Causes.{AccessesFields, HasFloatType, HasNoCause, IsAccepted, IsCauseOf, IsCauseWith, IsFirst, IsRefused, NamesFloat, NamesOther, NamesWell, Row, address_of, bad_code, cause, float, handler, instruction, long_code, refused_by, slots, synchronized, untyped}
pub use Rattle.pv_frame.specs.Effects.{gives, successors, takes}
pub use Rattle.pv_frame.specs.Frames.{Agrees, Flows, GoesOn, HasFrames, IsEnd, IsFrameAt, IsInferred, IsTyped, LeadsTo, Leaves, Reached, entry_frame, first, frame_after, frame_done, holds, next, padded_sorts, passed_to, pushed, same, sorts_of, this_sorts}
pub use Rattle.pv_frame.specs.Inferring.{Below, Clashes, Follows, FoundOr, HaveLocals, Inferring, KnowsLess, SameStack, Visits, Within, known, known_in, merged, met, weight, weight_of}
pub use Rattle.pv_frame.specs.Programs.{Does, IsAt, IsProgramOf, IsUnsynchronized, is_instance}
pub use Rattle.pv_frame.specs.Rows.{IsCoded, IsEarly, IsPlain, refused_for}
pub use Rattle.pv_frame.specs.Stacking.{lost_before, stored}
pub use Rattle.pv_frame.specs.Stacks.{Taken, copied, dropped, exchanged, first_cleared, fits, has_room, is_wide, last_local, moved, none, one, popped, set_local, taken, turned, two, width, with_first}
pub use Rattle.pv_frame.specs.Stops.{refused_at}
pub use Rattle.pv_frame.specs.declared.action.Action.{Action}
pub use Rattle.pv_frame.specs.declared.action.Move.{Move}
pub use Rattle.pv_frame.specs.declared.cause.Cause.{Cause}
pub use Rattle.pv_frame.specs.declared.cause.CauseKind.{CauseKind}
pub use Rattle.pv_frame.specs.declared.cause.Refused.{Refused}
pub use Rattle.pv_frame.specs.declared.frame.Frame.{Frame}
pub use Rattle.pv_frame.specs.declared.program.Program.{Program}
pub use Rattle.pv_frame.specs.declared.sort.Sort.{Sort}
pub use Rattle.pv_frame.specs.declared.stop.Stop.{Stop}
pub use Rattle.pv_frame.specs.declared.stop.Untyped.{Untyped}
pub use Rattle.pv_frame.specs.declared.typed.Typed.{Typed}
pub use Rattle.pv_frame.specs.declared.used.Use.{Use}
