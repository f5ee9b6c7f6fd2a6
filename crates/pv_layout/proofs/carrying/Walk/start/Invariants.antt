use Rattle.std.proofs.Common.{◌≡◌, map, take}
use Rattle.pv_layout.proofs.Words.{is_wide}
use Rattle.pv_layout.proofs.carrying.Walk.start.Given as goal

abbrev pub invariant-loop-sort : goal.invariant-loop-sort
invariant-loop-sort l = l.wide.items ≡ map is_wide (take l.sort-index l.sorts)
