use Rattle.std.proofs.Common.{◌≡◌, ◌++◌, map, take}
use Rattle.pv_pattern.specs.Seen.{axiom_seen}
use Rattle.pv_pattern.specs.Tables.{axiom_written}
use Rattle.pv_pattern.proofs.table.add_axioms.Given as goal

abbrev pub invariant-loop-row : goal.invariant-loop-row
invariant-loop-row l = map axiom_seen l.axioms.items ≡ map axiom_seen l.initial.axioms.items ++ map axiom_written (take l.row-index l.rows)
