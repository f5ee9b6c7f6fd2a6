use Rattle.std.proofs.Common.{◌≡◌, map, take}
use Rattle.pv_classes.specs.Partition.{at}
use Rattle.pv_classes.proofs.partition.numbers_of.Given as goal

abbrev pub invariant-loop-label : goal.invariant-loop-label
invariant-loop-label l = l.numbers.items ≡ map (at l.least) (take l.label-index l.labels)
