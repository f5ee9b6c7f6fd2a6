use Rattle.cases_graphs.proofs.Cycles.{differ_more, differ_distinct, none_before, read_at}
use Rattle.cases_graphs.proofs.rules.are_distinct.Goals as goal

pub loop-n-preserved : goal.loop-n-preserved
loop-n-preserved c =
    differ_more c.args.nodes.now c.loop-n.n c.index-nodes-n.result (read_at c.args.nodes.now c.loop-n.n c.index-nodes-n.result c.loop-n-test.true c.index-nodes-n.is) c.loop-n.invariant
    (none_before c.args.nodes.now c.loop-n.n c.index-nodes-n.result c.contains.result c.contains.ensures.value c.if-contains.false)

pub returns : goal.returns
returns c says = differ_distinct c.args.nodes.now c.loop-n.n c.loop-n-test.false c.loop-n.invariant
