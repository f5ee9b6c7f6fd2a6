-- The words of which the proofs here speak, and the laws of other crates that they cite, from one place.
pub use Rattle.std.proofs.Math.ListN.{length-replicate, length-set}
pub use Rattle.std.proofs.lemmas.Bool.Decides.{Decides-eqb, eqb_tells}
pub use Rattle.std.proofs.lemmas.List.{get_or-set_other, get_or-set_same, length-map}
pub use Rattle.std.proofs.lemmas.List.Elements.{Contains-append_right, Decides-contains, contains_decides}
pub use Rattle.std.proofs.lemmas.Option.{get_or_from_slice_get, slice_get-get_or, slice_get-map, slice_get_read, slice_get_within}
pub use Rattle.std.specs.Bool.{Decides}
pub use Rattle.std.specs.List.{All, Contains}
pub use Rattle.std.specs.Prelude.{Err, IfOk, Ok, Result, slice_index}
pub use Rattle.pv_value.specs.declared.memory.Memory.{Memory}
pub use Rattle.pv_flow.specs.declared.block.Block.{Block}
pub use Rattle.pv_loops.specs.Ranks.{Heads, around}
pub use Rattle.pv_loops.specs.declared.forest.Forest.{Forest}
pub use Rattle.pv_equations.proofs.Cited.{About, about}
pub use Rattle.pv_equations.specs.Equations.{Again, Ahead, AtPlace, Back, Ended, Finish, Gone, Header, Hits, IsChain, IsExit, IsTree, Joins, Leaving, Node, OfToken, On, Place, Returning, Seen, Target, Values, false_exp, first_loops, first_of_region, later, leaf, never_exp, now, outs, tree_of, true_exp}
pub use Rattle.pv_equations.specs.Exp.{Exp}
pub use Rattle.pv_equations.specs.Flow.{Chain, Dest, End, Exit, Flow, InChain, Kind, Leave, Part, Return, Test, Throw, To, put}
pub use Rattle.pv_decide.specs.Folds.{AimsAt, AreSound, Folds, IsAimedAt, IsEarly, IsExitOf, IsTestOf, NodeFits, at_dead, at_leaf, at_nothing, at_test}
pub use Rattle.pv_decide.specs.Landings.{IsLanding, verdict_end, verdict_of}
pub use Rattle.pv_decide.specs.Placing.{AreAhead, ArePlaces, FitsAt, Follows, FollowsTo, Grows, HasDead, HasNothing, IsPlace, IsPlaced, IsUnder, IsWalk, Joined, PlaceFits, Pushed, TestMade, Walking}
pub use Rattle.pv_decide.specs.Reaching.{AreEnds, AreSo, HitsAt, IsDone, KnowAhead, Leads, LeadsOn, Swept, unmarked}
pub use Rattle.pv_decide.specs.Sites.{AreInRange, AreOrdered, GoTo, GoesTo, Inside, IsAround, IsInRange, IsScope, Stand, dest_of, exit_at, first_of, loops_of, place_of, test_at}
pub use Rattle.pv_decide.specs.Trees.{AreForWalks, AreReady, AreSites, IsAsked, IsOver, IsRegion, IsSite, IsTreeOf, scope_by, scope_of}
pub use Rattle.pv_decide.specs.Walks.{Gives, HasTrees, IsAimed, dead_of, exit_gives, inner, leaves_of, leaving, target_of, tests_of}
pub use Rattle.pv_decide.specs.declared.aim.Scope.{Scope}
pub use Rattle.pv_decide.specs.declared.aim.Scope.TheVariants.{Loop, Whole}
pub use Rattle.pv_decide.specs.declared.landing.Landing.{Landing}
pub use Rattle.pv_decide.specs.declared.landing.Verdict.{Verdict}
pub use Rattle.pv_decide.specs.declared.site.Site.{Site}
pub use Rattle.pv_decide.specs.declared.tree.TreeNode.{TreeNode}
