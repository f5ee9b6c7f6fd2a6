use Rattle.pv_alike.specs.Keys.{number_at}
use Rattle.pv_alike.proofs.Classing.{IsClassing}
use Rattle.pv_alike.proofs.classes.finer.Given as goal

abbrev pub invariant-loop-n : goal.invariant-loop-n
invariant-loop-n l = IsClassing l.g.nodes (number_at l.classes) (number_at l.numbers) l.n l.next.items l.keys
