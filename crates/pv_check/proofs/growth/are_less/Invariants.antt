use Rattle.std.proofs.Common.{◌↔◌, ◌<◌, drop}
use Rattle.std.specs.List.{AllByRecursion}
use Rattle.pv_check.proofs.growth.are_less.Given as goal

abbrev pub invariant-loop-kid : goal.invariant-loop-kid
invariant-loop-kid l = AllByRecursion (λ k. k < l.n) l.kids ↔ AllByRecursion (λ k. k < l.n) (drop l.kid-index l.kids)
