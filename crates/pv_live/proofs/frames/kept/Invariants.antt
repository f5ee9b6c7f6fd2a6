use Rattle.std.proofs.Common.{◌≡◌, length}
use Rattle.pv_live.proofs.Kept.{AreKeptTo}
use Rattle.pv_live.proofs.frames.kept.Given as goal

abbrev pub invariant-loop-local : goal.invariant-loop-local
invariant-loop-local l = record {
  long : length l.sorts.items ≡ l.local;
  kept : AreKeptTo l.row l.locals l.sorts.items;
}
