-- The words of which the proofs here speak, and the laws of other crates that they cite, from one place.
pub use Rattle.std.specs.List.{AllZip}
pub use Rattle.pv_value.specs.declared.heap.Heap.{Heap}
pub use Rattle.pv_value.specs.declared.outcome.Fault.{Fault}
pub use Rattle.pv_value.specs.declared.outcome.Input.{Input}
pub use Rattle.pv_value.specs.declared.outcome.Outcome.{Outcome}
pub use Rattle.pv_value.specs.declared.outcome.Outcome.TheVariants.{Returned, Threw}
pub use Rattle.pv_value.specs.declared.outcome.Val.{Val}
pub use Rattle.pv_value.specs.declared.world.World.{World}
pub use Rattle.pv_loops.specs.Ranks.{Heads}
pub use Rattle.pv_denote.proofs.Cited.{at_at, at_other, at_same, den_makes, not_free, unfolds_value, value_once, value_says}
pub use Rattle.pv_denote.specs.Denote.{Index, Value, at_depth, numbers, truth}
pub use Rattle.pv_denote.specs.Means.{Ending, Means}
pub use Rattle.pv_equations.proofs.Cited.{About, Boundary, Further, Goes, IsGoal, IsNode, Later, OutWalk, Outside, Walk, Walks, about, exit_out, found, free_seen, go, header_back, lands_gone, lands_header, lands_in, lands_on, move, node_out, on_rank, out_walk, seen_ended, seen_heads, seen_once, seen_to, snoc_same, stop, walk_around, walk_rank, walk_split, walk_then, walk_widen, walks_end, walks_rank}
pub use Rattle.pv_equations.specs.Equations.{Again, Ahead, AreEquations, AtPlace, Back, Ended, Finish, FreeIn, Given, Gone, Header, Hits, IsChain, IsExit, IsTree, Joins, Leaving, Node, OfToken, On, Place, Returning, Seen, Target, Values, at_start, false_exp, first_kid, first_loops, first_of_region, form_of, later, leaf, never_exp, now, or_else, outs, token_out, token_outs, tree_of, true_exp, unit_exp}
pub use Rattle.pv_equations.specs.Exp.{Exp, Exps, Name, NoExp, Over, Then, listed, one, three, two}
pub use Rattle.pv_equations.specs.Flow.{Chain, Dest, Edge, End, Exit, Flow, InChain, Kind, Leave, More, NoPart, Of, Part, Parts, Return, Shape, Slot, Test, Throw, To, TokenPart, call_token, calls, kept, put, put_all}
pub use Rattle.pv_equations.specs.Root.{root_of}
pub use Rattle.pv_conversion.specs.Meaning.{Meaning}
pub use Rattle.pv_conversion.specs.Outcomes.{Carries, EndsWith, Finishes, IsOutcome, MachineEnds, Next, Stops, after, then}
pub use Rattle.pv_conversion.specs.Runs.{Chooses, Ends, Fails, Left, PartIs, PartsAre, Runnable, Runs, Starts, Steps, Waits, ends, goes}
