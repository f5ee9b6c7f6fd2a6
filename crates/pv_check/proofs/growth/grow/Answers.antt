use Rattle.std.proofs.Common.{◌≡◌, false, ℕ, sym, ◌∙◌, subst}
use Rattle.pv_graph.specs.declared.node.Op.{Op}
use Rattle.pv_graph.specs.Ops.{is_variable}
use Rattle.pv_graph.specs.Calls.{Added}
use Rattle.pv_check.proofs.Grown.{sealed_may, next_nodes, not_next, is_new, is_old}
use Rattle.pv_check.proofs.growth.grow.Goals as goal

pub returns-then-not-may_add : goal.returns-then-not-may_add
returns-then-not-may_add c = record {
  yes = tt;
  no = not_next c.args.graph.now c.args.n c.args.op.now c.args.kids.now (λ h. let z = c.may_add.ensures.1 h in let y = c.if-not-may_add.true in absurd (cc));
}

pub add-requires : goal.add-requires
add-requires c = record { kids = next_nodes c.args.graph.now c.args.n c.args.kids.now (c.may_add.ensures.0 c.if-not-may_add.false); theta = sealed_may c.args.graph.now c.in_ok-op.op c.requires }

pub returns-then-added-n : goal.returns-then-added-n
returns-then-added-n c =
    let next = c.may_add.ensures.0 c.if-not-may_add.false in
    let added = subst (λ (m : ℕ). Added c.args.graph.now c.add.new.self c.args.op.now c.args.kids.now m) c.if-added-n.true
    (subst (λ (o : Op). Added c.args.graph.now c.add.new.self o c.args.kids.now c.in-Ok.added) c.in_ok-op.ensures c.in-Ok.ensures.ok) in
    let plain_ : is_variable c.args.op.now ≡ false = sym c.is_variable.ensures ∙ c.if-is_variable.false in
    record { yes = is_new c.args.graph.now c.add.new.self c.args.n c.args.op.now c.args.kids.now plain_ next added; no = tt }

pub returns-else-added-n : goal.returns-else-added-n
returns-else-added-n c =
    let next = c.may_add.ensures.0 c.if-not-may_add.false in
    let added = subst (λ (o : Op). Added c.args.graph.now c.add.new.self o c.args.kids.now c.in-Ok.added) c.in_ok-op.ensures c.in-Ok.ensures.ok in
    record { yes = tt; no = is_old c.args.graph.now c.add.new.self c.args.n c.in-Ok.added c.args.op.now c.args.kids.now next added c.if-added-n.false }
