use Rattle.std.proofs.Common.{◌≡◌, length}
use Rattle.pv_decide.proofs.Words.{AreSo, unmarked}
use Rattle.pv_decide.proofs.reaching.ahead.Given as goal

abbrev pub invariant-loop-aim : goal.invariant-loop-aim
invariant-loop-aim l = record {
  len : length l.known.items ≡ length l.sites;
  so : AreSo l.sites l.aim.scope l.aim.target l.known.items;
}

abbrev pub decreases-loop-aim : goal.decreases-loop-aim
decreases-loop-aim l = unmarked l.known.items
