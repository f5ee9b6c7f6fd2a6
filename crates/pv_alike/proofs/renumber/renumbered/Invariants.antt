use Rattle.std.proofs.Common.{take}
use Rattle.std.specs.List.{AllZip}
use Rattle.pv_alike.specs.Renumbered.{IsCopyOf}
use Rattle.pv_alike.proofs.renumber.renumbered.Given as goal

abbrev pub invariant-loop-n : goal.invariant-loop-n
invariant-loop-n l = AllZip (IsCopyOf l.nodes l.order) (take l.n-index l.n-items) l.copies.items
