use Rattle.std.proofs.Common.{◌≡◌, ◌-◌}
use Rattle.pv_format.specs.Grammars.{times}
use Rattle.pv_class.specs.ClassGrammar.{field}
use Rattle.pv_format.specs.GrammarReading.{read}
use Rattle.pv_class.proofs.reading.fields_at.Given as goal

abbrev pub invariant-loop : goal.invariant-loop
invariant-loop l = read (times l.count (field l.pool)) l.bytes ≡ read (times (l.count - l.counter) (field l.pool)) l.rest
