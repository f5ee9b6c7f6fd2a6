use Rattle.std.proofs.Common.{◌≡◌}
use Rattle.pv_steps.specs.Steps.{assumed_in}
use Rattle.pv_check.specs.Kept.{blocks_at, open_now}
use Rattle.pv_check.proofs.Fresh.{IsBlock}
use Rattle.pv_check.proofs.seen.Seen.assumed.Given as goal

abbrev pub invariant-loop-around : goal.invariant-loop-around
invariant-loop-around l = record {
  block : IsBlock l.self.steps.now l.around;
  same : assumed_in (open_now l.self.steps.now) ≡ assumed_in (blocks_at l.self.steps.now l.around);
}

abbrev pub decreases-loop-around : goal.decreases-loop-around
decreases-loop-around l = l.around
