use Rattle.std.proofs.Common.{arith}
use Rattle.cases_graphs.proofs.Cycles.{fall_keeps}
use Rattle.cases_graphs.proofs.rules.is_well_made.Goals as goal

pub returns : goal.returns
returns c says = record {
  graph = c.len-n-end.ensures.graph;
  rule = fall_keeps c.args.graph.now.nodes (λ n node low at. c.loop-n.invariant n node (let end = c.loop-n-test.false in let len = c.len-n-end.ensures.len in omega arith) at);
}
