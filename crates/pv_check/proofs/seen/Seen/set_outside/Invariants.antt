use Rattle.std.proofs.Common.{◌↔◌, drop, reverse}
use Rattle.std.specs.List.{AllByRecursion}
use Rattle.pv_check.specs.Sets.{IsOutsideAt}
use Rattle.pv_check.proofs.seen.Seen.set_outside.Given as goal

abbrev pub invariant-loop-congruence : goal.invariant-loop-congruence
invariant-loop-congruence l = AllByRecursion (IsOutsideAt (reverse l.self.steps.now) l.depth) l.set ↔ AllByRecursion (IsOutsideAt (reverse l.self.steps.now) l.depth) (drop l.congruence-index l.set)
