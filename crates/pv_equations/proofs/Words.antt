-- The words of which the proofs here speak, and the laws of other crates that they cite, from one place.
pub use Rattle.pv_loops.specs.Ranks.{Heads}
pub use Rattle.pv_graph.specs.Forms.{Form, form}
pub use Rattle.pv_graph.specs.Graphs.{Graph, form_at}
pub use Rattle.pv_graph.specs.Ops.{shape}
pub use Rattle.pv_graph.specs.Unfold.{Tree, UnfoldsAs, tree_at, trees_of}
pub use Rattle.pv_graph.specs.Walks.{Free, In, below, here, open_kids}
pub use Rattle.pv_graph.specs.declared.node.Op.{Op}
pub use Rattle.pv_equations.specs.Equations.{Again, Ahead, AreEquations, AreTrees, AtPlace, Back, Ended, Finish, FreeIn, Given, Gone, Header, Hits, IsChain, IsExit, IsTree, Joins, Lands, Leaving, Node, OfToken, On, Place, Returning, Seen, Target, Values, again, at_start, begun, beside, entered, enters, false_exp, first_kid, first_loops, first_of_region, form_of, gone, header, kid, later, leaf, leaves, name, never_exp, now, or_else, outs, theta, token_out, token_outs, tree_of, true_exp, unit_exp}
pub use Rattle.pv_equations.specs.Exp.{Exp, Exps, Name, NoExp, Over, Then, listed, made, one, three, two}
pub use Rattle.pv_equations.specs.Flow.{AllBelow, Chain, Compact, Dest, Edge, End, Exit, Flow, InChain, InTests, IsFinite, Kind, LeadsBack, Leave, More, NamesBelow, NoPart, Of, Part, Parts, Return, Shape, Slot, Test, Throw, To, passes, put, put_all, turns}
