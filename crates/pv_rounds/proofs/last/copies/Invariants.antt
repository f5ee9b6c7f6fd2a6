use Rattle.std.proofs.Common.{take}
use Rattle.pv_rounds.specs.Last.{AreCopies}
use Rattle.pv_rounds.proofs.last.copies.Given as goal

abbrev pub invariant-loop-x : goal.invariant-loop-x
invariant-loop-x l = AreCopies (take l.x-index l.list) l.copies.items
