use Rattle.std.proofs.Common.{◌≤◌, List, vec_len}
use Rattle.pv_graph.specs.declared.node.Node.{Node}
use Rattle.pv_graph.specs.Known.{AreAllFree}
use Rattle.pv_graph.proofs.known.open.Given as goal

abbrev pub invariant-loop : goal.invariant-loop
invariant-loop l = record { places : l.counter ≤ vec_len l.marks; free : (nodes : List Node) → AreAllFree nodes l.initial.marks.items → AreAllFree nodes l.marks.items }
