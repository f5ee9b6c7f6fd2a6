use Rattle.std.proofs.Common.{◌+◌, length}
use Rattle.pv_frame.specs.Inferring.{weight, Inferring}
use Rattle.pv_frame.proofs.spreading.frames_of.Given as goal

abbrev pub invariant-loop-place : goal.invariant-loop-place
invariant-loop-place l = Inferring l.program l.frames.items l.work.items

abbrev pub decreases-loop-place : goal.decreases-loop-place
decreases-loop-place l = weight l.program.max_locals l.frames.items + length l.work.items
