-- The words of which the proofs here speak, and the laws of other crates that they cite, from one place.
pub use Rattle.std.proofs.lemmas.Option.{same_Some, slice_get-get_or, slice_get_within}
pub use Rattle.std.proofs.lemmas.Result.{IfOk-weaker}
pub use Rattle.std.specs.Prelude.{Err, Ok, OnErr, Result, slice_index}
pub use Rattle.pv_graph.proofs.Cited.{Bisimulates, Matched, added_extends, added_made, begun_extends, begun_made, bisimulates_unfolds, form_there, found, get_last, node_at, push_cases}
pub use Rattle.pv_graph.specs.Calls.{Added, AreNodes, Begun, IsFree, IsOpenTheta, IsSame, Tied, appended}
pub use Rattle.pv_graph.specs.Forms.{Form, form}
pub use Rattle.pv_graph.specs.Graphs.{Extends, Graph, IsGraph, IsUnfinished, form_at}
pub use Rattle.pv_graph.specs.Nodes.{IsAbsent, IsFirst, node_of}
pub use Rattle.pv_graph.specs.Ops.{HasSort, HaveSorts, but_root, exactly, is_depth, same_sort, sort_over}
pub use Rattle.pv_graph.specs.Walks.{In}
pub use Rattle.pv_graph.specs.declared.node.Node.{Node}
pub use Rattle.pv_graph.specs.declared.node.Op.{Op}
pub use Rattle.pv_graph.specs.declared.node.OpSort.{OpSort}
pub use Rattle.pv_equations.specs.Equations.{FreeIn, Joins, Values, begun, entered, first_kid, form_of, kid, name, theta, unit_exp}
pub use Rattle.pv_equations.specs.Exp.{Exp, Exps, Name, NoExp, Over, Then, listed, one, three, two}
pub use Rattle.pv_equations.specs.Flow.{Flow}
pub use Rattle.pv_terms.specs.Laws.{AreTiedBelow, FreeReads, GrowthStands, IsTiedName, ReadOnce, StandingReads, TyingUnfolds, depths}
pub use Rattle.pv_terms.specs.Reads.{AreNames, IsNoTheta, IsTheta, ReadAll, Reads, Stand, Within, named}
pub use Rattle.pv_terms.specs.Terms.{Grows, GrowsBy, HasItsSort, IsFlat, IsFlatOrOut, IsOfSort, IsUnnamed, IsValue, Keeps, KeepsSort, Opens, ReadsBoth, ReadsLast, ReadsOut, ReadsOver, ReadsTokenOut, StayNames, has_depth, last_of}
pub use Rattle.pv_terms.specs.declared.names.Named.{Named}
