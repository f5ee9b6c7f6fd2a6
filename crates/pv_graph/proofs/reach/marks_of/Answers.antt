use Rattle.std.proofs.Common.{Bool, List, sym, subst}
use Rattle.std.proofs.lemmas.Option.{slice_get_within}
use Rattle.pv_graph.specs.Reach.{AreBegun}
use Rattle.pv_graph.proofs.Marking.{are_marked}
use Rattle.pv_graph.proofs.reach.marks_of.Goals as goal

pub reaching-requires-clause-within : goal.reaching-requires-clause-within
reaching-requires-clause-within c k u use_ = let r = (c.requires.uses k u).0 use_ in slice_get_within c.args.nodes.now u.node r.0 r.1

pub returns : goal.returns
returns c =
    are_marked c.args.nodes.now c.args.out.now c.args.look c.args.uses.now c.requires.uses c.deref.result.now c.in_ok-marks.marks.items
    (subst (λ (starts : List Bool). AreBegun c.args.nodes.now c.args.out.now c.args.look starts) (sym c.deref.ensures.value) c.in_ok-starts.ensures) c.in_ok-marks.ensures
