use Rattle.std.proofs.Common.{drop}
use Rattle.pv_denote.specs.Denote.{numbers}
use Rattle.pv_denote.proofs.Readings.{Rest}
use Rattle.pv_denote.proofs.call_ops.numbers.Given as goal

abbrev pub invariant-loop-v : goal.invariant-loop-v
invariant-loop-v l = Rest numbers l.values l.found.items (drop l.v-index l.values)
