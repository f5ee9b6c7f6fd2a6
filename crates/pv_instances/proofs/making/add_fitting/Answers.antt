use Rattle.pv_instances.proofs.Growing.{nodes_have}
use Rattle.pv_instances.proofs.making.add_fitting.Goals as goal

pub add-requires-clause-kids : goal.add-requires-clause-kids
add-requires-clause-kids c = let f = c.requires.fits in nodes_have c.args.graph.now c.len-count.ensures.graph c.args.kids.now f.1.sorts f.1.kids_have
