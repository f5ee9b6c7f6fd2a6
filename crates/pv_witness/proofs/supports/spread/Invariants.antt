use Rattle.std.proofs.Common.{take}
use Rattle.pv_witness.specs.Found.{Spreads}
use Rattle.pv_witness.specs.Numbered.{numbered}
use Rattle.pv_witness.proofs.supports.spread.Given as goal

abbrev pub invariant-loop-n : goal.invariant-loop-n
invariant-loop-n l = Spreads (numbered l.graph l.numbers) l.numbers l.condition (take l.n-index l.nodes) l.initial.found.list.items l.found.list.items l.found.has.items
