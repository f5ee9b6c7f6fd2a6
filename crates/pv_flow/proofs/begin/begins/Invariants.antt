use Rattle.pv_flow.proofs.Marks.{BeginSoFar}
use Rattle.pv_flow.proofs.begin.begins.Given as goal

abbrev pub invariant-loop-place : goal.invariant-loop-place
invariant-loop-place l = BeginSoFar l.typed.program l.place l.begins.items
