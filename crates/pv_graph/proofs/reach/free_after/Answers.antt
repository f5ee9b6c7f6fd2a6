use Rattle.std.proofs.Common.{◌-◌, Bool, List, [], length, take, drop, sym, subst}
use Rattle.std.proofs.lemmas.Option.{slice_get_within}
use Rattle.pv_graph.specs.declared.node.Node.{Node}
use Rattle.pv_graph.specs.declared.reach.Look.TheVariants as look
use Rattle.pv_graph.specs.Reach.{Uses, AreOut, AreUsesFrom, AreBegunAfter}
use Rattle.pv_graph.proofs.After.{rest_is, free_after}
use Rattle.pv_graph.proofs.reach.free_after.Goals as goal

pub reaching-requires-clause-within : goal.reaching-requires-clause-within
reaching-requires-clause-within c k u use_ =
    let rest : List Node = take (length c.args.nodes.now - length c.args.known.now) (drop (length c.args.known.now) c.args.nodes.now) in
    let uses = subst (λ (uses : Uses). AreUsesFrom (length c.args.known.now) rest c.deref.result.now uses) (sym c.deref-2.ensures.value) c.in_ok-uses.ensures.uses in
    let r = (uses k u).0 use_ in
    slice_get_within rest u.node r.0 r.1

pub returns : goal.returns
returns c is =
    let rest : List Node = take (length c.args.nodes.now - length c.args.known.now) (drop (length c.args.known.now) c.args.nodes.now) in
    free_after c.args.nodes.now c.args.known.now c.args.d c.requires.known rest (rest_is c.args.nodes.now (length c.args.known.now)) c.deref.result.now
    (subst (λ (out : List Bool). AreOut (length rest) [] out) (sym c.deref.ensures.value) c.in_ok-out.ensures) c.deref-2.result.now
    (subst (λ (uses : Uses). AreUsesFrom (length c.args.known.now) rest c.deref.result.now uses) (sym c.deref-2.ensures.value) c.in_ok-uses.ensures.uses) c.deref-3.result.now
    (subst (λ (starts : List Bool). AreBegunAfter c.args.known.now rest (look.Free c.args.d) starts) (sym c.deref-3.ensures.value) c.in_ok-starts.ensures) c.in_ok-found.found.items c.in_ok-found.ensures is
