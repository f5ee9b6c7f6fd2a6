use Rattle.std.proofs.Common.{◌≤◌}
use Rattle.pv_report.proofs.pairs.count_pairs.Given as goal

abbrev pub invariant-loop-place : goal.invariant-loop-place
invariant-loop-place l = l.count ≤ l.place
