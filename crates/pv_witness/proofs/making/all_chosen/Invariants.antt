use Rattle.std.proofs.Common.{take}
use Rattle.pv_witness.specs.Table.{AreChosen}
use Rattle.pv_witness.proofs.making.all_chosen.Given as goal

abbrev pub invariant-loop-kid : goal.invariant-loop-kid
invariant-loop-kid l = AreChosen l.numbers l.table (take l.kid-index l.kids) l.nodes.items
