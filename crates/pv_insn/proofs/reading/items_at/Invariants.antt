use Rattle.pv_format.proofs.Cited.{ItemsSoFar}
use Rattle.pv_insn.proofs.reading.items_at.Given as goal

abbrev pub invariant-loop : goal.invariant-loop
invariant-loop g l = ItemsSoFar g.T.Item.takes l.size l.bytes l.counter l.items.items l.rest
