use Rattle.std.proofs.Common.{take}
use Rattle.pv_alike.specs.Renumbered.{ArePlaces}
use Rattle.pv_alike.proofs.renumber.places.Given as goal

abbrev pub invariant-loop-n : goal.invariant-loop-n
invariant-loop-n l = ArePlaces l.order l.places.items (take l.n-index l.nodes)
