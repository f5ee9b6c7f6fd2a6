use Rattle.std.proofs.Common.{◌≡◌, length, subst, sym, arith}
use Rattle.pv_endings.specs.declared.spine.Next.{Next}
use Rattle.pv_endings.specs.Spine.{IsWalk, AreWithin}
use Rattle.pv_endings.proofs.Walking.{walk_step, walk_done, walk_low, next_within}
use Rattle.pv_endings.proofs.spine.spine_of.Goals as goal

pub node-requires : goal.node-requires
node-requires c =
    walk_low c.args.graph.now.nodes c.args.token c.in-Some.n c.loop-n.walk.spine.items c.loop-n.walk.walked.items c.pop.new.self.items
    (subst (IsWalk c.args.graph.now.nodes c.args.token c.loop-n.walk.spine.items c.loop-n.walk.walked.items) c.in-Some.ensures.items c.loop-n.invariant)

pub follow-requires-clause-n : goal.follow-requires-clause-n
follow-requires-clause-n c =
    let low = walk_low c.args.graph.now.nodes c.args.token c.in-Some.n c.loop-n.walk.spine.items c.loop-n.walk.walked.items c.pop.new.self.items
    (subst (IsWalk c.args.graph.now.nodes c.args.token c.loop-n.walk.spine.items c.loop-n.walk.walked.items) c.in-Some.ensures.items c.loop-n.invariant) in
    let long = c.loop-n.invariant.long in
    let ok = c.loop-n.walk.spine.ok in
    omega (arith, low, long, ok)

pub follow-requires-clause-next : goal.follow-requires-clause-next
follow-requires-clause-next c =
    let within = next_within c.args.graph.now c.len.ensures.graph c.in-Some.n c.node.result.now c.node.ensures in
    let long = c.loop-n.invariant.long in
    let ok = c.loop-n.walk.spine.ok in
    subst (AreWithin c.next_of.result) (let z : length c.args.graph.now.nodes ≡ c.loop-n.walk.spine.len = omega (arith, long, ok) in z) (subst (λ (n : Next). AreWithin n (length c.args.graph.now.nodes)) (sym c.next_of.ensures) within)

pub loop-n-preserved : goal.loop-n-preserved
loop-n-preserved c =
    let walk = subst (IsWalk c.args.graph.now.nodes c.args.token c.loop-n.walk.spine.items c.loop-n.walk.walked.items) c.in-Some.ensures.items c.loop-n.invariant in
    let within = next_within c.args.graph.now c.len.ensures.graph c.in-Some.n c.node.result.now c.node.ensures in
    walk_step c.args.graph.now.nodes c.args.token c.in-Some.n c.node.result.now (record c.loop-n.walk { work = c.pop.new.self }) c.follow.new.self
    c.node.ensures (walk_low c.args.graph.now.nodes c.args.token c.in-Some.n c.loop-n.walk.spine.items c.loop-n.walk.walked.items c.pop.new.self.items walk) walk
    c.next_of.result (sym c.next_of.ensures) c.in_ok-follow.ensures (subst (λ (n : Next). AreWithin n (length c.args.graph.now.nodes)) (sym c.next_of.ensures) within)

pub returns : goal.returns
returns c =
    walk_done c.args.graph.now.nodes c.args.token c.loop-n.walk.spine.items c.loop-n.walk.walked.items c.loop-n.walk.work.items
    (let ok = c.loop-n.walk.work.ok in let none = c.in_default.ensures.cases.0 in omega (arith, ok, none)) c.loop-n.invariant
