use Rattle.pv_refute.proofs.Heaps.{same_heaps}
use Rattle.pv_refute.proofs.outcome.is_same_heap.Goals as goal

pub returns : goal.returns
returns c = same_heaps c.args.one.now c.args.two.now c.eq.result c.eq.ensures
