use Rattle.std.proofs.Common.{take}
use Rattle.pv_graph.specs.Index.{IsIndex}
use Rattle.pv_graph.proofs.graph.index_of.Given as goal

abbrev pub invariant-loop-n : goal.invariant-loop-n
invariant-loop-n l = IsIndex (take l.n l.nodes) l.index.numbers
