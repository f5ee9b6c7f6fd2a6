use Rattle.std.proofs.Common.{List, map, subst}
use Rattle.pv_graph.specs.declared.node.Node.{Node}
use Rattle.pv_alike.specs.Keys.{number_at, over_numbers}
use Rattle.pv_counted.specs.Folding.{ArePlaces}
use Rattle.pv_counted.proofs.Folds.{folded_more, folded_same}
use Rattle.pv_counted.proofs.folding.folded.Goals as goal

pub loop-f-preserved : goal.loop-f-preserved
loop-f-preserved c =
    let places = c.in_ok-places.places.of.items in
    let kept = c.in_ok-places.places.kept in
    let f = c.loop-f.f in
    let new = c.in_ok-f.f in
    let start = c.args.start in
    let is = subst (λ (xs : List Node). ArePlaces xs places kept) c.deref.ensures.value c.in_ok-places.ensures in
    folded_same start.nodes.items start.first start.second new.nodes.items (map (over_numbers (number_at places)) kept) new.first (number_at places f.first) new.second (number_at places f.second)
    c.in_ok-f.ensures.nodes c.in_ok-f.ensures.first c.in_ok-f.ensures.second
    (folded_more f.nodes.items places kept c.loop-f.invariant.within is start.nodes.items start.first start.second f.first f.second c.loop-f.invariant)
