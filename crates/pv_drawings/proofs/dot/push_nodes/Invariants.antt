use Rattle.std.proofs.Common.{◌≡◌, ◌++◌, take}
use Rattle.std.specs.List.{enumerate_from, flat_map}
use Rattle.pv_format.specs.Splits.{text_of}
use Rattle.pv_drawings.specs.Dots.{node_lines}
use Rattle.pv_drawings.proofs.dot.push_nodes.Given as goal

abbrev pub invariant-loop-n : goal.invariant-loop-n
invariant-loop-n l = l.out.items ≡ l.fn.out.items ++ text_of (flat_map node_lines (enumerate_from 0 (take l.n l.graph.nodes)))
