use Rattle.std.proofs.Common.{ℕ, List, subst}
use Rattle.pv_graph.specs.Walks.{In}
use Rattle.pv_alike.proofs.Refined.{earlier_in}
use Rattle.pv_alike.proofs.numbering.key_of.Goals as goal

pub over_class-requires : goal.over_class-requires
over_class-requires c k m =
    let node = c.args.node.now in
    c.requires.kids k (earlier_in node.op node.kids k (subst (λ (ks : List ℕ). In ks k) c.earlier_kids.ensures m))
