use Rattle.std.proofs.Common.{◌≡◌, take}
use Rattle.pv_explain.specs.Needed.{marked}
use Rattle.pv_explain.proofs.needed.marked_joins.Given as goal

abbrev pub invariant-loop-i : goal.invariant-loop-i
invariant-loop-i l = l.kept.items ≡ marked (take l.i l.needed) l.joins
