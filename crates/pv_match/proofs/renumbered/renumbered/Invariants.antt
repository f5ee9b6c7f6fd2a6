use Rattle.std.proofs.Common.{take}
use Rattle.pv_match.specs.Rematching.{AreRenumbered}
use Rattle.pv_match.proofs.renumbered.renumbered.Given as goal

abbrev pub invariant-loop-x : goal.invariant-loop-x
invariant-loop-x l = AreRenumbered l.numbers (take l.x-index l.known) l.list.items
