-- The words of which the proofs here speak, and the laws of other crates that they cite, from one place.
pub use Rattle.std.proofs.Math.ListN.{length-set}
pub use Rattle.std.proofs.Math.Seq.{drop-cons}
pub use Rattle.std.proofs.lemmas.Bool.{cases_eq, cases_lt}
pub use Rattle.std.proofs.lemmas.Bool.Decides.{eqb_tells, nat_tests}
pub use Rattle.std.proofs.lemmas.List.{drop_all, length-map, length-replicate, replicate_more, take_more}
pub use Rattle.std.proofs.lemmas.List.Elements.{Contains-append_right}
pub use Rattle.std.proofs.lemmas.Option.{IfSome_then, get_or_from_slice_get, same_Some, slice_get-get_or, slice_get_read, slice_get_within}
pub use Rattle.std.proofs.lemmas.Result.{IfOk-weaker}
pub use Rattle.std.specs.List.{All, AllByRecursion, AllZip, Contains, flat_map, list_any}
pub use Rattle.std.specs.Prelude.{IsTrue, Vec, if◌then◌else◌, option_map, slice_get, slice_index, ◌==◌}
pub use Rattle.std.specs.Vec.{with_item}
pub use Rattle.std.specs.declared.alloc.Global.{Global}
pub use Rattle.pv_value.specs.declared.descriptor.JType.{JType}
pub use Rattle.pv_value.specs.declared.name.Sym.{Sym}
pub use Rattle.pv_pool.specs.declared.constant.Constant.{Constant}
pub use Rattle.pv_class.specs.declared.file.ClassFile.{ClassFile}
pub use Rattle.pv_insn.specs.declared.insn.Insn.{Insn}
pub use Rattle.pv_insn.specs.declared.insn.Placed.{Placed}
pub use Rattle.pv_frame.proofs.Cited.{contains_first, equal_or_not, get_set, get_set_other, no_some, reached_frame, some_of}
pub use Rattle.pv_frame.specs.Actions.{ActsWith, HasFloatlessResult, LoadsConstant, branch_rows, class_rows, field_rows, local_rows, plain_rows, row_of}
pub use Rattle.pv_frame.specs.Causes.{IsAccepted}
pub use Rattle.pv_frame.specs.Frames.{IsFrameAt, LeadsTo, padded_sorts, passed_to, sorts_of, this_sorts}
pub use Rattle.pv_frame.specs.Programs.{Does, IsProgramOf}
pub use Rattle.pv_frame.specs.declared.action.Action.{Action}
pub use Rattle.pv_frame.specs.declared.cause.Refused.{Refused}
pub use Rattle.pv_frame.specs.declared.frame.Frame.{Frame}
pub use Rattle.pv_frame.specs.declared.program.Program.{Program}
pub use Rattle.pv_frame.specs.declared.sort.Sort.{Sort}
pub use Rattle.pv_frame.specs.declared.used.Use.{Use}
pub use Rattle.pv_live.proofs.Cited.{needed_agree}
pub use Rattle.pv_live.specs.Needed.{AreNeeded}
pub use Rattle.pv_flow.proofs.Cited.{edges_within, entry_block}
pub use Rattle.pv_flow.specs.Blocks.{IsExit}
pub use Rattle.pv_flow.specs.Edges.{edges_of, targets_of}
pub use Rattle.pv_flow.specs.Exits.{Departure, branched, branches_on_no, departures}
pub use Rattle.pv_flow.specs.declared.block.Block.{Block}
pub use Rattle.pv_loops.specs.Forests.{IsForest}
pub use Rattle.pv_loops.specs.Ranks.{Heads, IsOrdered}
pub use Rattle.pv_loops.specs.Shapes.{IsShape}
pub use Rattle.pv_loops.specs.declared.forest.Forest.{Forest}
pub use Rattle.pv_loops.specs.declared.forest.Loop.{Loop}
pub use Rattle.pv_loops.specs.declared.forest.TheConstants.{MAX_DEPTH}
pub use Rattle.pv_graph.proofs.Cited.{found, get_front, get_last, node_at, set_length, set_other, set_same, tie_keeps_rule}
pub use Rattle.pv_graph.specs.Calls.{IsOpenTheta}
pub use Rattle.pv_graph.specs.Forms.{Form}
pub use Rattle.pv_graph.specs.Graphs.{Extends, Graph, IsGraph, IsWellMade, form_at}
pub use Rattle.pv_graph.specs.Laws.{StaysIn}
pub use Rattle.pv_graph.specs.Nodes.{node_of}
pub use Rattle.pv_graph.specs.Ops.{HasSort, alike, eval_sort, is_depth, shape, shift_sort, sort_over}
pub use Rattle.pv_graph.specs.Walks.{In, Move, down, jump, move_to, step, still, stop}
pub use Rattle.pv_graph.specs.declared.fault.GraphFault.{GraphFault}
pub use Rattle.pv_graph.specs.declared.node.Node.{Node}
pub use Rattle.pv_graph.specs.declared.node.Op.{Op}
pub use Rattle.pv_graph.specs.declared.node.OpSort.{OpSort}
pub use Rattle.pv_graph.specs.declared.node.OpSort.TheVariants.{F, H, I, R, T}
pub use Rattle.pv_equations.specs.Equations.{AreEquations, Back, Finish, Returning, Values, first_kid, leaf, never_exp, or_else, outs, token_out, token_outs, tree_of, unit_exp}
pub use Rattle.pv_equations.specs.Exp.{Exp, NoExp, Over, Then, three}
pub use Rattle.pv_equations.specs.Flow.{Chain, Dest, End, Exit, Flow, Leave, To, put}
pub use Rattle.pv_runs.proofs.Cited.{Departs, chain_at, exits_of, frame_long, has_chain, method_ranked, number_is, program_clean, typed_chain}
pub use Rattle.pv_runs.specs.Blocks.{block_chain, number_at, numbered, numbered_dest, numbered_exit, place_chain}
pub use Rattle.pv_runs.specs.Carrying.{always_carried, members_of, writes_in}
pub use Rattle.pv_runs.specs.Entries.{op_at, param_ops, passed_ops, start_op}
pub use Rattle.pv_runs.specs.Held.{Held, by_turns, local_place, local_slot, stack_place, stack_slot}
pub use Rattle.pv_runs.specs.Laws.{IsRanked}
pub use Rattle.pv_runs.specs.Methods.{IsShaped, flow_of}
pub use Rattle.pv_decide.proofs.Cited.{inner_is, split_at, under}
pub use Rattle.pv_decide.specs.Folds.{AreSound, Folds, IsAimedAt, IsExitOf, IsTestOf, NodeFits}
pub use Rattle.pv_decide.specs.Sites.{GoTo, Inside, dest_of, exit_at, loops_of, test_at}
pub use Rattle.pv_decide.specs.Trees.{AreForWalks, IsOver, IsSound, IsTreeOf, scope_by, scope_of}
pub use Rattle.pv_decide.specs.Walks.{dead_of, exit_gives, inner, leaves_of, leaving, target_of, tests_of}
pub use Rattle.pv_decide.specs.declared.aim.Scope.{Scope}
pub use Rattle.pv_decide.specs.declared.site.Site.{Site}
pub use Rattle.pv_decide.specs.declared.tree.Target.{Target}
pub use Rattle.pv_decide.specs.declared.tree.Tree.{Tree}
pub use Rattle.pv_decide.specs.declared.tree.TreeNode.{TreeNode}
pub use Rattle.pv_terms.proofs.Cited.{extends_stand, grows_by_then, grows_same, grows_then, grows_unchanged, grows_wider, name_last, names_stand, names_within, on_err, reads_stand, same_kids, same_node, same_op, sorted_within, stand_then, standing_reads, tied_stand, tying_unfolds}
pub use Rattle.pv_fold.specs.Fold.{AreGiven, FoldKeepsSort, GivenSort, HaveOneSort, IsMaybeOf, ReadsFold, ReadsMaybe}
pub use Rattle.pv_terms.specs.Laws.{IsTiedName, IsUnfinishedName, Making, depths}
pub use Rattle.pv_terms.specs.Reads.{AreNames, Reads, Stand, Within, named}
pub use Rattle.pv_terms.specs.Terms.{Enlarges, Grows, GrowsBy, HasItsSort, IsFlat, IsFlatOrOut, IsOfSort, IsUnnamed, Keeps, KeepsSort, Opens, ReadsOut, ReadsOver, ReadsTokenOut, StayNames, has_depth}
pub use Rattle.pv_terms.specs.declared.names.Named.{Named}
pub use Rattle.pv_block.specs.Plain.{ArePlain, IsFloatlessCall}
pub use Rattle.pv_block.specs.Ran.{ExitStands, FitsFrame, FitsSort, IsCellOf, IsSortedEnding, IsSortedExit, IsSortedRan, IsStateOf, IsTest, RanFor, RunsAlong, dest_at, ending_slot, entry_of, known_by, local_node, node_of_cell, result_sort, slot_at, slot_of, stack_node}
pub use Rattle.pv_block.specs.Sorted.{AreSorted, IsSortedCell, op_sort}
pub use Rattle.pv_block.specs.Standing.{Entry, StandsFor}
pub use Rattle.pv_block.specs.declared.held.Cell.{Cell}
pub use Rattle.pv_block.specs.declared.ran.Ending.{Ending}
pub use Rattle.pv_block.specs.declared.ran.Leaving.{Leaving}
pub use Rattle.pv_block.specs.declared.ran.Leaving.TheVariants.{Goes, Returns, Throws}
pub use Rattle.pv_block.specs.declared.ran.Ran.{Ran}
pub use Rattle.pv_block.specs.declared.ran.State.{State}
pub use Rattle.pv_build.specs.Building.{Begun, CanOpen, IsBuiltOf, IsLast, IsNext, IsNothing, IsOwnLoop, IsStageBefore, IsStageFor}
pub use Rattle.pv_layout.specs.Carried.{IsCarried}
pub use Rattle.pv_build.specs.Closings.{AllHaveRun, AreTied, Closing, IsOpenAt, IsTiedTheta, MayTie, MayTieAll, TiesLoop, TiesOne, closing_of, dead_at, depth_of}
pub use Rattle.pv_build.specs.Conversion.{Converts, IsRootOf}
pub use Rattle.pv_build.specs.Ends.{AtEnds, EndsFold, EndsGive, ReadsRoot, default_of, default_sort}
pub use Rattle.pv_build.specs.Giving.{AreClosedFrom, AreReadyFor, IsExitFor, IsGivenFor, IsIntFor, IsLeafFor, IsSourceFor, IsTargetIn, scope_at}
pub use Rattle.pv_build.specs.Leaves.{AreSourcesFor, HasExitAt, HasLeft, HasTested, IsExitAt, Left, Tested, header_at, header_list}
pub use Rattle.pv_build.specs.Opening.{BeginsBlock, HeldAs, IsEnteredBy, IsOuter}
pub use Rattle.pv_build.specs.Openings.{AreBegun, AreFirstKids, AreHeaderCells, AreNodes, Begins, CanBegin, HasTheta, IsBegun, IsHeaderCell, IsHeaderState, carried_at, first_at, node_or}
pub use Rattle.pv_build.specs.Outs.{AreCellsOut, IsCellOut, IsEndOut, IsNodeOut, IsSortedState, IsStateOut, IsTokenOut, ReadsNodeOut}
pub use Rattle.pv_layout.specs.Reasons.{Structures}
pub use Rattle.pv_layout.specs.Routine.{IsRoutine}
pub use Rattle.pv_build.specs.Slots.{number, number_in}
pub use Rattle.pv_build.specs.Sources.{FoldsTo, FoldsToOne, Gives, GivesAt, GivesOne, HasNodeFor, HasNodeOf, MaybeReads, MaybeSorted, ReadsAt, given_by, given_nodes}
pub use Rattle.pv_build.specs.Stages.{AreDone, GrowsIn, HasBase, HasRun, HasSlotAt, IsAt, IsBeyond, IsClosed, IsDone, IsInside, IsLoopAt, IsMethod, IsOpened, IsStage, IsThetaOf, KeepsFirst, StandsAs, flow_in, loops_around, loops_at, region_at}
pub use Rattle.pv_build.specs.States.{AreCellsOf, AreOpsOf, CellFoldsToOne, CellGives, CellReadsFold, CellsFold, CellsFoldToSome, CellsGive, CellsRead, FrameFolds, FrameFoldsToSome, FrameGives, HasSlot, IsFirstOp, IsKnown, ReadsFrame, ReadsStart, ReadsState, StartCellsRead, this_ops}
pub use Rattle.pv_layout.specs.Structure.{IsLaidOut}
pub use Rattle.pv_build.specs.Taken.{AreDeeper, AreLeft, AreSortedLoops, IsLeft, IsSortedLoop, ReadsOutOf, ReadsOutOfAll, ReadsValueOut, out_slots, outs_slots}
pub use Rattle.pv_build.specs.Unfolded.{IsBuilt, none_of}
pub use Rattle.pv_layout.specs.declared.carrying.Writes.{Writes}
pub use Rattle.pv_build.specs.declared.method.Closed.{Closed}
pub use Rattle.pv_build.specs.declared.method.Made.{Made}
pub use Rattle.pv_build.specs.declared.method.Method.{Method}
pub use Rattle.pv_build.specs.declared.method.Opened.{Opened}
pub use Rattle.pv_build.specs.declared.method.Stage.{Stage}
pub use Rattle.pv_build.specs.declared.method.Theta.{Theta}
pub use Rattle.pv_build.specs.declared.opening.Head.{Head}
pub use Rattle.pv_build.specs.declared.slot.Part.{Part}
pub use Rattle.pv_build.specs.declared.slot.Slot.{Slot}
pub use Rattle.pv_build.specs.declared.source.Given.{Given}
pub use Rattle.pv_build.specs.declared.source.Source.{Source}
