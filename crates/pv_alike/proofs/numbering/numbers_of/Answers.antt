use Rattle.std.proofs.Common.{get_or}
use Rattle.pv_graph.proofs.Cited.{in_at}
use Rattle.pv_alike.proofs.numbering.numbers_of.Goals as goal

pub bounds-numbers-k : goal.bounds-numbers-k
bounds-numbers-k c = c.requires (get_or c.args.nodes.now c.loop-k.k-index 0) (in_at c.args.nodes.now c.loop-k.k-index 0 c.loop-k-test.true)
