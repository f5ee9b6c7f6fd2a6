use Rattle.pv_witness.specs.Found.{Begins}
use Rattle.pv_witness.specs.Numbered.{numbered}
use Rattle.pv_witness.proofs.supports.begin.Given as goal

abbrev pub invariant-loop-n : goal.invariant-loop-n
invariant-loop-n l = Begins (numbered l.graph l.numbers) l.numbers l.condition l.starts l.n l.found.list.items l.found.has.items
