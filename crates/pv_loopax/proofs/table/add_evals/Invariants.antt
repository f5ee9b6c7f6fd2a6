use Rattle.std.proofs.Common.{◌≡◌, ◌++◌, map, take}
use Rattle.pv_pattern.specs.Seen.{axiom_seen}
use Rattle.pv_loopax.specs.Table.{evals}
use Rattle.pv_loopax.proofs.table.add_evals.Given as goal

abbrev pub invariant-loop-n : goal.invariant-loop-n
invariant-loop-n l = map axiom_seen l.axioms.items ≡ map axiom_seen l.initial.axioms.items ++ map evals (take l.n-index l.family)
