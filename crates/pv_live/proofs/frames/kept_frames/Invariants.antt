use Rattle.std.proofs.Common.{◌≡◌, length}
use Rattle.pv_live.proofs.Kept.{FramesTo}
use Rattle.pv_live.proofs.frames.kept_frames.Given as goal

abbrev pub invariant-loop-place : goal.invariant-loop-place
invariant-loop-place l = record {
  long : length l.all.items ≡ l.place;
  kept : FramesTo l.rows l.frames l.all.items;
}
