use Rattle.std.proofs.Common.{take}
use Rattle.pv_counted.specs.Folding.{ArePlaces}
use Rattle.pv_counted.proofs.folding.places_of.Given as goal

abbrev pub invariant-loop-node : goal.invariant-loop-node
invariant-loop-node l = ArePlaces (take l.node-index l.nodes) l.of.items l.kept
