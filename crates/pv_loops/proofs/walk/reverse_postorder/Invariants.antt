use Rattle.std.proofs.Common.{length}
use Rattle.pv_loops.specs.Reductions.{IsWalk}
use Rattle.pv_loops.proofs.walk.reverse_postorder.Given as goal

abbrev pub invariant-loop : goal.invariant-loop
invariant-loop l = IsWalk (length l.shape) l.walk
