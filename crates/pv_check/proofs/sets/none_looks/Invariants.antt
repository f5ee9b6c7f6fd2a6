use Rattle.std.proofs.Common.{◌↔◌, drop}
use Rattle.std.specs.List.{AllByRecursion}
use Rattle.pv_check.specs.Sets.{LooksElsewhere}
use Rattle.pv_check.proofs.sets.none_looks.Given as goal

abbrev pub invariant-loop-congruence : goal.invariant-loop-congruence
invariant-loop-congruence l = AllByRecursion (LooksElsewhere l.graph l.depth) l.set ↔ AllByRecursion (LooksElsewhere l.graph l.depth) (drop l.congruence-index l.set)
