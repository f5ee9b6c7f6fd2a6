use Rattle.std.proofs.Common.{◌≡◌, ◌++◌, map, take}
use Rattle.std.specs.List.{enumerate_from}
use Rattle.pv_format.specs.Splits.{text_of}
use Rattle.pv_drawings.specs.Listings.{node_line}
use Rattle.pv_drawings.proofs.listing.push_nodes.Given as goal

abbrev pub invariant-loop-n : goal.invariant-loop-n
invariant-loop-n l = l.out.items ≡ l.fn.out.items ++ text_of (map node_line (enumerate_from 0 (take l.n l.graph.nodes)))
