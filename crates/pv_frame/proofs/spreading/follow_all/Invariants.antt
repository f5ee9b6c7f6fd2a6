use Rattle.std.proofs.Common.{take}
use Rattle.pv_frame.specs.Inferring.{Follows}
use Rattle.pv_frame.proofs.spreading.follow_all.Given as goal

abbrev pub invariant-loop-place : goal.invariant-loop-place
invariant-loop-place l = Follows l.fn.frames.items l.fn.work.items l.source (take l.place-index l.places) l.frames.items l.work.items
