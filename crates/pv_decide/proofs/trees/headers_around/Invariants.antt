use Rattle.std.proofs.Common.{◌≡◌, map, take}
use Rattle.pv_loops.specs.Outwards.{header_at}
use Rattle.pv_decide.proofs.trees.headers_around.Given as goal

abbrev pub invariant-loop-i : goal.invariant-loop-i
invariant-loop-i l = l.headers.items ≡ map (header_at l.forest.loops.items) (take l.i-index l.row)
