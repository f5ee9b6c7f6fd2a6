use Rattle.std.proofs.Common.{◌-◌, length}
use Rattle.pv_witness.specs.Found.{IsSwept}
use Rattle.pv_witness.specs.Numbered.{numbered}
use Rattle.pv_witness.proofs.supports.supports.Given as goal

abbrev pub invariant-loop-next : goal.invariant-loop-next
invariant-loop-next l = IsSwept (numbered l.graph l.numbers) l.numbers l.condition l.starts l.next l.found.list.items l.found.has.items

abbrev pub decreases-loop-next : goal.decreases-loop-next
decreases-loop-next l = length l.numbers - l.next
