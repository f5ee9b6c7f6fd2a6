use Rattle.pv_layout.proofs.Words.{Frame, IsFrameAt, held_at, Walked}
use Rattle.pv_layout.proofs.carrying.written.Given as goal

abbrev pub invariant-loop-action : goal.invariant-loop-action
invariant-loop-action l = (f : Frame) → IsFrameAt l.fn.typed.frames l.fn.block.first f → Walked l.fn.typed.program (held_at f) l.fn.block.first l.action-index l.heap l.walk
