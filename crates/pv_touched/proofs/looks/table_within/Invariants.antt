use Rattle.std.proofs.Common.{map, take}
use Rattle.pv_pattern.specs.Seen.{axiom_seen}
use Rattle.pv_touched.specs.Looks.{TableWithin}
use Rattle.pv_touched.proofs.looks.table_within.Given as goal

abbrev pub invariant-loop-rule : goal.invariant-loop-rule
invariant-loop-rule l = TableWithin l.steps (map axiom_seen (take l.rule-index l.table))
