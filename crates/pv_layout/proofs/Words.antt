-- The words of which the proofs here speak, and the laws of other crates that they cite, from one place.
pub use Rattle.std.proofs.Math.ListN.{length-set}
pub use Rattle.std.proofs.lemmas.Bool.{and_from, and_parts, and_right, cases_eq, eq-eqb, eqb-false, eqb-true, lt-ltb, ltb-true, or_right}
pub use Rattle.std.proofs.lemmas.List.{append_cancel_right, get_or-set_other, get_or-set_same, length-map, length-replicate, replicate_more, take_more}
pub use Rattle.std.proofs.lemmas.List.Elements.{Contains-get_or}
pub use Rattle.std.proofs.lemmas.List.Folds.{list_any_more}
pub use Rattle.std.proofs.lemmas.Option.{get_or_from_slice_get, slice_get-get_or, slice_get_within}
pub use Rattle.std.specs.List.{AllByRecursion, AllZip, Contains, list_any}
pub use Rattle.std.specs.Prelude.{nat_lt, not, option_map, slice_get, slice_set, unwrap_or, ◌&&◌, ◌==◌, ◌||◌}
pub use Rattle.pv_value.specs.declared.descriptor.JType.{JType}
pub use Rattle.pv_value.specs.declared.name.Sym.{Sym}
pub use Rattle.pv_pool.specs.Readers.{◌>>=◌}
pub use Rattle.pv_frame.proofs.Cited.{if_some, no_some, popped_sorts, some_of}
pub use Rattle.pv_frame.specs.Causes.{cause}
pub use Rattle.pv_frame.specs.Effects.{takes}
pub use Rattle.pv_frame.specs.Frames.{IsFrameAt}
pub use Rattle.pv_frame.specs.Stacks.{first_cleared, has_room, is_wide, last_local, moved, popped, set_local}
pub use Rattle.pv_frame.specs.declared.action.Action.{Action}
pub use Rattle.pv_frame.specs.declared.cause.Cause.{Cause}
pub use Rattle.pv_frame.specs.declared.cause.Refused.{Refused}
pub use Rattle.pv_frame.specs.declared.frame.Frame.{Frame}
pub use Rattle.pv_frame.specs.declared.program.Program.{Program}
pub use Rattle.pv_frame.specs.declared.sort.Sort.{Sort}
pub use Rattle.pv_flow.proofs.Cited.{edges_reach, edges_within, entry_block, one_flow}
pub use Rattle.pv_flow.specs.Answers.{Answers, HasTooMany}
pub use Rattle.pv_flow.specs.Edges.{FromEntry, along, edges_of, entry}
pub use Rattle.pv_flow.specs.declared.block.Block.{Block}
pub use Rattle.pv_flow.specs.declared.flow.TheConstants.{MOST_BLOCKS}
pub use Rattle.pv_loops.specs.Forests.{HasDepth, NestsUpTo}
pub use Rattle.pv_loops.specs.Loops.{EdgeOf, IsLoop, Region, Way, Whole, edge, more}
pub use Rattle.pv_loops.specs.Ranks.{Heads}
pub use Rattle.pv_loops.specs.Shapes.{Edge, IsShape}
pub use Rattle.pv_loops.specs.Steps.{IsReducible, Stuck}
pub use Rattle.pv_loops.specs.declared.fault.TStep.{TStep}
pub use Rattle.pv_loops.specs.declared.forest.Forest.{Forest}
pub use Rattle.pv_loops.specs.declared.forest.Loop.{Loop}
pub use Rattle.pv_loops.specs.declared.forest.TheConstants.{MAX_DEPTH}
pub use Rattle.pv_equations.proofs.Cited.{IsNode, Walks, go, header_back, move, seen_once, seen_to, walk_around, walk_then}
pub use Rattle.pv_equations.specs.Equations.{Again, AreEquations, AtPlace, Back, Ended, Finish, Gone, Header, IsChain, IsTree, Joins, On, Place, Returning, Seen, Values, first_loops, first_of_region, never_exp, or_else, outs, tree_of}
pub use Rattle.pv_equations.specs.Exp.{Exp}
pub use Rattle.pv_equations.specs.Flow.{Chain, Dest, Exit, Flow, InChain, Leave, Shape, Test, To, put}
pub use Rattle.pv_runs.proofs.Cited.{bound, chained, edge_exit, frame_long, mapped, method_ranked, program_clean, turns_local, typed_chain}
pub use Rattle.pv_runs.specs.Blocks.{acted_along, place_chain}
pub use Rattle.pv_runs.specs.Carrying.{always_carried, block_writes, holds_wide, members_of, writes, writes_along, writes_heap, writes_in, writes_local}
pub use Rattle.pv_runs.specs.Held.{Held, acted, acted_on, cell_sort, held_at, increased_cell, local_cell, local_cells, local_slot, push, unset, with_result}
pub use Rattle.pv_runs.specs.Laws.{IsRanked}
pub use Rattle.pv_runs.specs.Methods.{flow_of}
pub use Rattle.pv_layout.specs.Carried.{Acts, AllRunThrough, AreBelow, AreWritten, IsCarried, IsOther, IsUnion, IsWritten, Knows, Marks, RunsThrough, Stores, Unites, Walked}
pub use Rattle.pv_layout.specs.Routine.{IsRoutine}
pub use Rattle.pv_layout.specs.Structure.{HasEdges, IsStructured, MeetsShape}
pub use Rattle.pv_layout.specs.declared.carrying.Walk.{Walk}
pub use Rattle.pv_layout.specs.declared.carrying.Writes.{Writes}
pub use Rattle.pv_layout.specs.Reasons.{Structures}
