use Rattle.std.proofs.Common.{ℕ, List, sym, subst}
use Rattle.pv_instances.specs.Made.{CanMakeBoth, MadeInstance}
use Rattle.pv_instances.specs.Seen.{instance_seen}
use Rattle.pv_saturate.specs.Added.{over}
use Rattle.pv_saturate.proofs.Instancing.{can_make_now, added}
use Rattle.pv_saturate.proofs.adding.add_match.Goals as goal

pub add_instance-requires-clause-sides : goal.add_instance-requires-clause-sides
add_instance-requires-clause-sides c =
    let m = instance_seen c.args.matched.now in
    subst (λ (xs : List ℕ). CanMakeBoth c.choose.new.graph (over m xs)) (sym c.deref.ensures.value)
    (can_make_now c.args.graph.now c.args.numbers.now m c.args.witnesses.now c.len-count.ensures.graph c.requires.sealed c.requires.numbered c.requires.sorts c.requires.can c.requires.stands c.in_ok-vars.vars.items c.in_ok-vars.ensures.chosen
    c.choose.new.graph c.in_ok-vars.ensures.same)

pub returns : goal.returns
returns c =
    let m = instance_seen c.args.matched.now in
    added c.args.graph.now c.args.numbers.now m c.args.witnesses.now c.len-count.ensures.graph c.requires.sealed c.requires.numbered c.requires.sorts c.requires.can c.requires.stands c.in_ok-vars.vars.items c.in_ok-vars.ensures.chosen
    c.choose.new.graph c.add_instance.new.graph c.in_ok-sides.sides.left c.in_ok-sides.sides.right c.in_ok-vars.ensures.same
    (subst (λ (xs : List ℕ). MadeInstance c.choose.new.graph c.add_instance.new.graph (over m xs) c.in_ok-sides.sides.left c.in_ok-sides.sides.right) c.deref.ensures.value c.in_ok-sides.ensures)
