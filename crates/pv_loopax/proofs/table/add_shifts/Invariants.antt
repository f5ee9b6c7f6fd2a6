use Rattle.std.proofs.Common.{◌≡◌, ◌++◌, map, take}
use Rattle.pv_pattern.specs.Seen.{axiom_seen}
use Rattle.pv_loopax.specs.Table.{shifts}
use Rattle.pv_loopax.proofs.table.add_shifts.Given as goal

abbrev pub invariant-loop-n : goal.invariant-loop-n
invariant-loop-n l = map axiom_seen l.axioms.items ≡ map axiom_seen l.initial.axioms.items ++ map shifts (take l.n-index l.family)
