use Rattle.std.proofs.Common.{get_or}
use Rattle.pv_graph.proofs.Cited.{in_at}
use Rattle.pv_counted.proofs.folding.all_places.Goals as goal

pub bounds-places-k : goal.bounds-places-k
bounds-places-k c = c.requires (get_or c.args.nodes.now c.loop-k.k-index 0) (in_at c.args.nodes.now c.loop-k.k-index 0 c.loop-k-test.true)
