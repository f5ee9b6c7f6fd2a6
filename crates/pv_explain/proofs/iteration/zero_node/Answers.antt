use Rattle.pv_explain.proofs.Iterating.{zero_fits, zero_made}
use Rattle.pv_explain.proofs.iteration.zero_node.Goals as goal

pub node-requires-clause-fits : goal.node-requires-clause-fits
node-requires-clause-fits c = zero_fits c.args.writer.now.graph

pub returns-clause-zero : goal.returns-clause-zero
returns-clause-zero c = zero_made c.args.writer.now c.node.new.self c.in_ok-zero.zero c.in_ok-zero.ensures

pub returns-clause-goes : goal.returns-clause-goes
returns-clause-goes c = c.in_ok-zero.ensures.goes
