use Rattle.std.proofs.Common.{◌≡◌, ◌-◌, []}
use Rattle.pv_class.specs.ClassGrammar.{signatures, methods}
use Rattle.pv_format.specs.GrammarReading.{read}
use Rattle.pv_class.proofs.reading.methods_at.Given as goal

abbrev pub invariant-loop : goal.invariant-loop
invariant-loop l = (read (methods l.pool l.count []) l.bytes ≡ read (methods l.pool (l.count - l.counter) l.methods.items) l.rest) × (l.seen ≡ signatures l.methods.items)
