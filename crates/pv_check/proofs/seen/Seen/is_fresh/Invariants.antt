use Rattle.std.proofs.Common.{◌↔◌}
use Rattle.pv_steps.specs.Right.{IsFresh}
use Rattle.pv_steps.specs.Steps.{blocks}
use Rattle.pv_check.specs.Kept.{blocks_at}
use Rattle.pv_check.proofs.Fresh.{IsBlock}
use Rattle.pv_check.proofs.seen.Seen.is_fresh.Given as goal

abbrev pub invariant-loop-around : goal.invariant-loop-around
invariant-loop-around l = record {
  block : IsBlock l.self.steps.now l.around;
  same : IsFresh l.depth (blocks (blocks_at l.self.steps.now l.block)) ↔ IsFresh l.depth (blocks (blocks_at l.self.steps.now l.around));
}

abbrev pub decreases-loop-around : goal.decreases-loop-around
decreases-loop-around l = l.around
