use Rattle.std.proofs.Common.{◌≡◌, ◌-◌}
use Rattle.pv_format.specs.Grammars.{times}
use Rattle.pv_format.specs.GrammarReading.{read}
use Rattle.pv_class.specs.Reading.{entry_of}
use Rattle.pv_class.proofs.table.times_at.Given as goal

abbrev pub invariant-loop : goal.invariant-loop
invariant-loop l = read (times l.count (entry_of l.entries l.pool l.room)) l.bytes ≡ read (times (l.count - l.counter) (entry_of l.entries l.pool l.room)) l.rest
