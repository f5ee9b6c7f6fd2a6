use Rattle.std.proofs.Common.{◌↔◌, reverse, drop}
use Rattle.pv_steps.specs.Right.{GiveAll}
use Rattle.pv_steps.specs.Steps.{both_sides}
use Rattle.pv_check.specs.Kept.{open_now}
use Rattle.pv_check.proofs.seen.Seen.give_all.Given as goal

abbrev pub invariant-loop-reason : goal.invariant-loop-reason
invariant-loop-reason l =
    GiveAll (reverse l.self.steps.now) (open_now l.self.steps.now) (both_sides l.set) l.reasons l.lefts l.rights
    ↔ GiveAll (reverse l.self.steps.now) (open_now l.self.steps.now) (both_sides l.set) (drop l.reason-index l.reasons) l.left_kids l.right_kids
