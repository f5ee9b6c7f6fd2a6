-- What `laid_out` answers.
use Rattle.std.specs.Prelude.{Result, Ok, Err}
use Rattle.pv_frame.specs.declared.cause.Refused.{Refused}
use Rattle.pv_frame.specs.declared.cause.Refused.TheVariants as refused
use Rattle.pv_frame.specs.declared.program.Program.{Program}
use Rattle.pv_layout.specs.declared.structure.Layout.{Layout}
use Rattle.pv_layout.specs.Structure.{IsLaidOut, MeetsShape}

-- the blocks of the program and their loops, or the cause for which it isn't structured
abbrev pub Structures : Program → Result Layout Refused → Type 0
Structures p (Ok s) = IsLaidOut p s.flow.blocks s.forest
Structures p (Err (refused.Cause c)) = MeetsShape p c
Structures p (Err refused.Memory) = Unit {0}
