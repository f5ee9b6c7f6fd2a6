use Rattle.std.proofs.Common.{◌≡◌, ◌∷◌, map, take, get_or}
use Rattle.pv_loops.specs.Outwards.{header_at}
use Rattle.pv_loops.proofs.together.key.Given as goal

abbrev pub invariant-loop-i : goal.invariant-loop-i
invariant-loop-i l = l.key.items ≡ get_or l.place l.node 0 ∷ map (λ x. get_or l.place x 0) (map (header_at l.loops) (take l.i-index l.row))
