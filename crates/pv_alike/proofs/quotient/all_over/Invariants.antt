use Rattle.std.proofs.Common.{take}
use Rattle.pv_alike.specs.Keys.{number_at}
use Rattle.pv_alike.specs.Quotient.{AreOver}
use Rattle.pv_alike.proofs.quotient.all_over.Given as goal

abbrev pub invariant-loop-n : goal.invariant-loop-n
invariant-loop-n l = AreOver l.g.nodes (number_at l.numbers) (take l.n-index l.nodes) l.all.items
