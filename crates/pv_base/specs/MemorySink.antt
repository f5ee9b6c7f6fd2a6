-- A sink in memory.
use Rattle.std.specs.Prelude.{ℕ, ◌-◌, List, ◌++◌, length, take}
use Rattle.pv_base.specs.Counts.{count_up}

-- what was sent, the room that is left, and the count of failures
pub record MemorySink : Type 0 where
  pub sent : List ℕ
  pub room : ℕ
  pub failures : ℕ

-- the sink after a put that fits
abbrev pub after_whole : MemorySink → List ℕ → MemorySink
after_whole sink bytes = record sink { sent = sink.sent ++ bytes; room = sink.room - length bytes }

-- the sink after a put that doesn't fit: the first bytes fill it, and it has failed
abbrev pub after_part : MemorySink → List ℕ → MemorySink
after_part sink bytes = record { sent = sink.sent ++ take sink.room bytes; room = 0; failures = count_up sink.failures }
