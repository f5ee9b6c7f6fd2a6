use Rattle.std.proofs.Common.{◌≡◌, map, take}
use Rattle.pv_graph.specs.Walks.{In}
use Rattle.pv_pattern.specs.Patterns.{Axiom}
use Rattle.pv_pattern.specs.Seen.{axiom_seen}
use Rattle.pv_saturate.proofs.decoding.axiom_with.Given as goal

abbrev pub invariant-loop-rule : goal.invariant-loop-rule
invariant-loop-rule l = (a : Axiom) → In (map axiom_seen (take l.rule-index l.table)) a → a.number ≡ l.number → ⊥
