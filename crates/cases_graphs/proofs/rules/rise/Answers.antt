use Rattle.std.proofs.Common.{arith}
use Rattle.cases_graphs.proofs.Cycles.{rise_leaves}
use Rattle.cases_graphs.proofs.rules.rise.Goals as goal

pub returns : goal.returns
returns c says = rise_leaves c.args.nodes.now (λ n node low at. c.loop-n.invariant n node (let end = c.loop-n-test.false in omega arith) at)
