use Rattle.std.proofs.Common.{List, Bool, [], ℕ, ◌<◌, sym, subst, arith}
use Rattle.pv_graph.specs.declared.node.Node.{Node}
use Rattle.pv_classes.specs.Keyed.{AreFirstTo}
use Rattle.pv_classes.proofs.Keying.{first_none, first_more, first_all}
use Rattle.pv_classes.proofs.forms.first_keys.Goals as goal

pub loop-n-init : goal.loop-n-init
loop-n-init c =
    let nodes = c.args.g.now.nodes in let labels = c.args.parts.now.labels in
    subst (λ (seen : List (Node × ℕ)). AreFirstTo 0 nodes labels seen c.new-firsts.result.items) (sym c.new-seen.ensures)
    (subst (λ (firsts : List Bool). AreFirstTo 0 nodes labels [] firsts) (sym c.new-firsts.ensures.items) (first_none nodes labels))

pub loop-n-preserved : goal.loop-n-preserved
loop-n-preserved c =
    let below = subst (λ (m : ℕ). c.loop-n.n < m) (sym c.requires.long) (omega (arith, c.loop-n.auto.n-end, c.loop-n-test.true, c.len-n-end.ensures.len)) in
    first_more c.loop-n.n c.args.g.now.nodes c.args.parts.now.labels below c.loop-n.seen c.is_first.new.seen c.loop-n.firsts.items c.in_ok-is_first.field-0 c.loop-n.invariant c.push.new.self.items c.in_ok-is_first.ensures c.in_ok-push.ensures.items

pub returns : goal.returns
returns c =
    first_all c.loop-n.n c.args.g.now.nodes c.args.parts.now.labels c.loop-n.seen c.loop-n.firsts.items (omega (arith, c.loop-n.auto.n-end, c.loop-n-test.false, c.len-n-end.ensures.len)) c.loop-n.invariant
