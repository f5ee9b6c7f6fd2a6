use Rattle.std.proofs.Common.{◌≡◌, ◌++◌, take}
use Rattle.std.specs.List.{enumerate_from}
use Rattle.pv_format.specs.Splits.{text_of}
use Rattle.pv_drawings.specs.Dots.{edge_line}
use Rattle.std.proofs.Common.{map}
use Rattle.pv_drawings.proofs.dot.push_edges.Given as goal

abbrev pub invariant-loop-place : goal.invariant-loop-place
invariant-loop-place l = l.out.items ≡ l.fn.out.items ++ text_of (map (edge_line l.n) (enumerate_from 0 (take l.place l.kids)))
