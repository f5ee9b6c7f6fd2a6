use Rattle.std.proofs.Common.{◌≤◌, ◌<◌, ℕ, reverse}
use Rattle.pv_check.specs.Sets.{KeepsDepth}
use Rattle.pv_check.proofs.seen.Seen.keeps_depths.Given as goal

abbrev pub invariant-loop-depth : goal.invariant-loop-depth
invariant-loop-depth l = (d : ℕ) → 1 ≤ d → d < l.depth → KeepsDepth l.graph (reverse l.self.steps.now) l.set d
