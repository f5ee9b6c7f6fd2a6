use Rattle.std.proofs.Common.{◌≡◌, map, take}
use Rattle.pv_loops.proofs.Words.{MAX_DEPTH, places_from}
use Rattle.pv_loops.proofs.outwards.rows_outwards.Given as goal

abbrev pub invariant-loop-home : goal.invariant-loop-home
invariant-loop-home l = map (λ v. v.items) l.rows.items ≡ map (λ home. places_from MAX_DEPTH l.loops home) (take l.home-index l.homes)
