use Rattle.pv_graph.proofs.SameNodes.{renumbers}
use Rattle.pv_graph.proofs.index.Index.insert.Goals as goal

pub returns-clause-ok : goal.returns-clause-ok
returns-clause-ok c = renumbers c.args.self.now.numbers c.insert.new.self c.args.node c.args.n c.in_ok-insert.ensures.updates
