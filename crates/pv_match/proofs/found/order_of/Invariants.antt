use Rattle.std.proofs.Common.{◌≡◌, length}
use Rattle.std.specs.Cmp.Lexicographic.{slice_cmp}
use Rattle.pv_match.proofs.found.order_of.Given as goal

abbrev pub invariant-loop-xs : goal.invariant-loop-xs
invariant-loop-xs g l = slice_cmp g.T.Ord.cmp l.xs l.ys ≡ slice_cmp g.T.Ord.cmp l.first l.second

abbrev pub decreases-loop-xs : goal.decreases-loop-xs
decreases-loop-xs g l = length l.xs
