use Rattle.std.proofs.Common.{◌≡◌, replicate, None}
use Rattle.pv_frame.proofs.spreading.no_frames.Given as goal

abbrev pub invariant-loop : goal.invariant-loop
invariant-loop l = l.frames.items ≡ replicate l.counter None
