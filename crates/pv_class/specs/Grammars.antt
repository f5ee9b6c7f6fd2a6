-- Grammars of the items of a class file (JVMS 4.1), with their faults, in the room that they have.
use Rattle.std.specs.Prelude.{ℕ, List, Option, Some, None}
use Rattle.std.specs.Int.{w16, w32}
use Rattle.pv_format.specs.Grammars as bytes
use Rattle.pv_class.specs.declared.fault.Cause.{Cause}
use Rattle.pv_class.specs.declared.fault.Cause.TheVariants as cause
use Rattle.pv_class.specs.declared.fault.Failure.{Failure}
use Rattle.pv_class.specs.declared.room.Room.{Room}

abbrev pub failure : Cause → ℕ → Failure
failure cause left = record { cause = cause; left = left }

-- how an item fails that doesn't fit: in the file it is cut, in the Code attribute that begins where `start` bytes are left the attribute's length is wrong
abbrev pub short_by : Option ℕ → ℕ → Failure
short_by None left = failure cause.Truncated left
short_by (Some start) left = failure cause.Code start

-- an item in a room leaves its bytes after it
abbrev pub short : Room → ℕ → Failure
short room left = short_by room.code left

abbrev pub Grammar : Type 0 → Type 1
Grammar A = bytes.Grammar Failure A

abbrev pub u2 : Room → Grammar ℕ
u2 room = bytes.number room.after (short room) w16

abbrev pub u4 : Room → Grammar ℕ
u4 room = bytes.number room.after (short room) w32

abbrev pub run : Room → ℕ → Grammar (List ℕ)
run room n = bytes.run room.after (short room) n

abbrev pub table : {A : Type 0} → Room → Grammar A → Grammar ℕ
table room g = bytes.table room.after (short room) w16 g
