use Rattle.std.proofs.Common.{take}
use Rattle.pv_touched.specs.Far.{AllClear}
use Rattle.pv_touched.proofs.near.all_clear.Given as goal

abbrev pub invariant-loop-kid : goal.invariant-loop-kid
invariant-loop-kid l = AllClear l.numbers l.near (take l.kid-index l.kids)
