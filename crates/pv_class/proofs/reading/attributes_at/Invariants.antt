use Rattle.std.proofs.Common.{◌≡◌, ◌-◌, None}
use Rattle.pv_class.specs.ClassGrammar.{attributes}
use Rattle.pv_format.specs.GrammarReading.{read}
use Rattle.pv_class.proofs.reading.attributes_at.Given as goal

abbrev pub invariant-loop : goal.invariant-loop
invariant-loop l = read (attributes l.pool l.count None) l.bytes ≡ read (attributes l.pool (l.count - l.counter) l.code) l.rest
