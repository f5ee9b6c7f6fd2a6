use Rattle.std.proofs.Common.{take}
use Rattle.std.specs.List.{AllZip}
use Rattle.pv_flow.specs.Finding.{IsMade}
use Rattle.pv_flow.proofs.flow.blocks.Given as goal

abbrev pub invariant-loop-first : goal.invariant-loop-first
invariant-loop-first l = AllZip (IsMade l.typed.program l.numbers.items) (take l.first-index l.first-items) l.blocks.items
