use Rattle.std.proofs.Common.{◌∷◌, [], sym, subst, arith}
use Rattle.pv_graph.proofs.Cited.{kid_within}
use Rattle.pv_alike.specs.BottomUp.{Settles}
use Rattle.pv_alike.proofs.Refined.{earlier_in}
use Rattle.pv_alike.proofs.Settled.{Lists, settles_there, settles_waits}
use Rattle.pv_alike.proofs.bottom_up.settle.Goals as goal

pub put-requires : goal.put-requires
put-requires c =
    let node = c.node.result.now in
    let low = kid_within c.args.g.now c.requires.graph c.args.n c.in-Some.k node c.node.ensures (earlier_in node.op node.kids c.in-Some.k c.in-Some.ensures.0) in
    omega (arith, low, c.requires.long)

pub returns-in_ok-put-in-Some : goal.returns-in_ok-put-in-Some
returns-in_ok-put-in-Some c =
    let lacks = c.in-Some.ensures in
    let low = kid_within c.args.g.now c.requires.graph c.args.n c.in-Some.k c.node.result.now c.node.ensures (earlier_in c.node.result.now.op c.node.result.now.kids c.in-Some.k lacks.0) in
    subst (λ (after : Lists). Settles c.args.g.now.nodes c.args.order.now c.args.order.now c.args.waiting.now after (c.args.n ∷ [])) (sym c.in_ok-put-in-Some.ensures)
    (settles_waits c.args.g.now.nodes c.args.order.now c.args.waiting.now c.args.n c.in-Some.k c.node.result.now c.requires.up c.node.ensures lacks (omega (arith, low, c.requires.long)))

pub returns-in_ok-visit-in-None : goal.returns-in_ok-visit-in-None
returns-in_ok-visit-in-None c =
    settles_there c.args.g.now.nodes c.args.order.now c.visit.new.self c.args.waiting.now c.args.n c.in_ok-visit-in-None.field-0 c.node.result.now c.requires.up c.node.ensures c.in-None.ensures c.in_ok-visit-in-None.ensures
