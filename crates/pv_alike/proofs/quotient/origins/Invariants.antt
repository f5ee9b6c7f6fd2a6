use Rattle.pv_alike.specs.Keys.{number_at}
use Rattle.pv_alike.proofs.Quotients.{IsOriginating}
use Rattle.pv_alike.proofs.quotient.origins.Given as goal

abbrev pub invariant-loop-n : goal.invariant-loop-n
invariant-loop-n l = IsOriginating l.g.nodes (number_at l.numbers.of.items) l.numbers.count l.n l.origins.items
