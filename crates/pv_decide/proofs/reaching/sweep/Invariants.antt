use Rattle.std.proofs.Common.{◌≡◌, ◌≤◌, ◌+◌, false, length}
use Rattle.pv_decide.proofs.Words.{AreSo, IsDone, unmarked}
use Rattle.pv_decide.proofs.Reached.{one_if}
use Rattle.pv_decide.proofs.reaching.sweep.Given as goal

abbrev pub invariant-loop-b : goal.invariant-loop-b
invariant-loop-b l = record {
  low : l.b ≤ length l.sites;
  len : length l.known ≡ length l.sites;
  so : AreSo l.sites l.aim.scope l.aim.target l.known;
  fewer : unmarked l.known + one_if l.changed ≤ unmarked l.initial.known;
  done : l.changed ≡ false → IsDone l.sites l.aim.scope l.aim.target l.known l.b;
}

abbrev pub decreases-loop-b : goal.decreases-loop-b
decreases-loop-b l = l.b
