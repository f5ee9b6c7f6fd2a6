use Rattle.std.proofs.Common.{◌∙◌, List, length, slice_get, ap, sym, arith}
use Rattle.pv_graph.specs.declared.node.Node.{Node}
use Rattle.pv_counted.proofs.Folds.{kept_low}
use Rattle.pv_counted.proofs.folding.fold.Goals as goal

pub all_over-requires : goal.all_over-requires
all_over-requires c n k node e m =
    let low = kept_low c.args.f.now.nodes.items c.args.places.now.of.items c.args.places.now.kept c.requires.within c.requires.places n k node (ap (λ (xs : List Node). slice_get xs n) (sym c.as_slice.ensures) ∙ e) m in
    omega (arith, low, ap length c.deref.ensures.value)
