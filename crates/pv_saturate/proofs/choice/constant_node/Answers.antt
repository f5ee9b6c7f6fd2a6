use Rattle.std.proofs.Common.{sym, ◌∙◌}
use Rattle.pv_saturate.proofs.Choosing.{constant_fits}
use Rattle.pv_saturate.proofs.choice.constant_node.Goals as goal

pub add_fitting-requires-clause-fits : goal.add_fitting-requires-clause-fits
add_fitting-requires-clause-fits c = constant_fits c.args.graph.now c.args.n c.in-Some.op (sym c.constant_op.ensures ∙ c.in-Some.is)
