use Rattle.pv_alike.specs.Keys.{number_at}
use Rattle.pv_alike.proofs.Keying.{IsPassing}
use Rattle.pv_alike.proofs.numbering.pass.Given as goal

abbrev pub invariant-loop-n : goal.invariant-loop-n
invariant-loop-n l = IsPassing l.g.nodes (number_at l.classes) l.order l.n-index l.numbers.items l.keys
