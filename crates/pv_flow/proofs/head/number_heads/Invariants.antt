use Rattle.pv_flow.specs.Finding.{AreHeads}
use Rattle.pv_flow.proofs.head.number_heads.Given as goal

abbrev pub invariant-loop-place : goal.invariant-loop-place
invariant-loop-place l = AreHeads l.begins l.frames l.place l.places.items l.numbers.items
