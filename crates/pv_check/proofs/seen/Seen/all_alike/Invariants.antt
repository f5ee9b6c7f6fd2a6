use Rattle.std.proofs.Common.{◌↔◌, drop, reverse}
use Rattle.std.specs.List.{AllByRecursion}
use Rattle.pv_check.specs.Sets.{AreAlike}
use Rattle.pv_check.specs.Kept.{open_now}
use Rattle.pv_check.proofs.seen.Seen.all_alike.Given as goal

abbrev pub invariant-loop-congruence : goal.invariant-loop-congruence
invariant-loop-congruence l = AllByRecursion (AreAlike l.graph (reverse l.self.steps.now) (open_now l.self.steps.now) l.set) l.set ↔ AllByRecursion (AreAlike l.graph (reverse l.self.steps.now) (open_now l.self.steps.now) l.set) (drop l.congruence-index l.set)
