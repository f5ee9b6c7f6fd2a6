-- What there is to answer of a method with typed frames: its blocks, or that they are too many.
use Rattle.std.specs.Prelude.{◌≡◌, ℕ, ◌<◌, ◌≤◌, List, length, Result, Ok, Err}
use Rattle.pv_frame.specs.declared.program.Program.{Program}
use Rattle.pv_frame.specs.declared.cause.Refused.{Refused}
use Rattle.pv_frame.specs.declared.cause.Refused.TheVariants as refused
use Rattle.pv_frame.specs.declared.cause.CauseKind.TheVariants as kind
use Rattle.pv_flow.specs.declared.block.Block.{Block}
use Rattle.pv_flow.specs.declared.block.Flow.{Flow}
use Rattle.pv_flow.specs.declared.flow.TheConstants.{MOST_BLOCKS}
use Rattle.pv_flow.specs.Blocks.{IsFlow}

-- more blocks are reached
abbrev pub HasTooMany : Program → Type 0
HasTooMany p = (blocks : List Block) × IsFlow p blocks × (MOST_BLOCKS < length blocks)

-- out of memory says nothing of the method
abbrev pub Answers : Program → Result Flow Refused → Type 0
Answers p (Ok flow) = IsFlow p flow.blocks × (length flow.blocks ≤ MOST_BLOCKS)
Answers p (Err (refused.Cause c)) = (c ≡ record { kind = kind.Blocks; at = 0 }) × HasTooMany p
Answers p (Err refused.Memory) = Unit {0}
