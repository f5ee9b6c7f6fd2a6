use Rattle.std.proofs.Common.{◌≡◌, ◌≤◌, sum_by, take}
use Rattle.pv_frame.specs.Stacks.{width}
use Rattle.pv_frame.proofs.stack.is_within.Given as goal

abbrev pub invariant-loop-sort : goal.invariant-loop-sort
invariant-loop-sort l = (l.total ≡ sum_by width (take l.sort-index l.stack)) × (l.total ≤ l.limit)
