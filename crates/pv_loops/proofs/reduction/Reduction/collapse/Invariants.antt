use Rattle.std.proofs.Common.{vec_len}
use Rattle.pv_loops.proofs.Sweeping.{Collapsing}
use Rattle.pv_loops.proofs.reduction.Reduction.collapse.Given as goal

abbrev pub invariant-sweeps : goal.invariant-sweeps
invariant-sweeps l = Collapsing l.reduction l.sources l.rest.items

abbrev pub decreases-sweeps : goal.decreases-sweeps
decreases-sweeps l = vec_len l.rest
