use Rattle.std.proofs.Common.{List, subst}
use Rattle.pv_graph.specs.declared.node.Node.{Node}
use Rattle.pv_alike.specs.Keys.{Keyed}
use Rattle.pv_alike.proofs.Keying.{keyed}
use Rattle.pv_counted.proofs.keys.Keys.number.Goals as goal

pub returns : goal.returns
returns c =
    let stored = c.in_ok-n.ensures.stored in
    subst (λ (old : List Node). Keyed old c.insert_full.new.self.keys c.args.node c.in_ok-n.n) c.self.view_is
    (keyed c.self.inside.nodes.keys c.insert_full.new.self.keys c.args.node stored.0 c.in_ok-n.n c.in_ok-n.ensures.keys stored.1 stored.2)
