use Rattle.std.proofs.Common.{◌↔◌, drop, reverse}
use Rattle.std.specs.List.{AllByRecursion}
use Rattle.pv_steps.specs.Right.{IsOutside}
use Rattle.pv_check.proofs.seen.Seen.all_outside.Given as goal

abbrev pub invariant-loop-reason : goal.invariant-loop-reason
invariant-loop-reason l = AllByRecursion (IsOutside (reverse l.self.steps.now) l.depth) l.reasons ↔ AllByRecursion (IsOutside (reverse l.self.steps.now) l.depth) (drop l.reason-index l.reasons)
