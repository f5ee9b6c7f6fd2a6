use Rattle.std.proofs.Common.{◌≡◌, ◌<◌, ℕ, List, length, subst, sym, ◌∙◌, arith}
use Rattle.std.specs.List.{Contains}
use Rattle.pv_classes.specs.Learning.{Tells, AreParents}
use Rattle.pv_classes.proofs.Learnt.{kid_below, has_more, within_more}
use Rattle.pv_classes.proofs.known.add_parents.Goals as goal

pub put_parent-requires : goal.put_parent-requires
put_parent-requires c k there =
    subst (λ (m : ℕ). k < m) (sym c.loop-n.invariant.long)
    (kid_below c.args.g.now c.requires.graph c.loop-n.n k c.node.result.now c.node.ensures (subst (λ (xs : List ℕ). Contains xs k) c.as_slice.ensures there))

pub loop-n-preserved : goal.loop-n-preserved
loop-n-preserved c =
    let tells = subst (λ (xs : List ℕ). Tells c.loop-n.parents c.put_parent.new.parents xs c.loop-n.n) c.as_slice.ensures c.in_ok-put_parent.ensures.ok in
    record {
      long = c.put_parent.ensures.long ∙ c.loop-n.invariant.long;
      has = has_more c.args.g.now.nodes c.loop-n.parents c.put_parent.new.parents c.loop-n.n c.node.result.now c.node.ensures tells c.loop-n.invariant.has;
      within = within_more c.args.g.now.nodes c.loop-n.parents c.put_parent.new.parents c.loop-n.n c.node.result.now c.node.ensures tells c.loop-n.invariant.within;
    }

pub returns : goal.returns
returns c =
    let e : c.loop-n.n ≡ length c.args.g.now.nodes = omega (arith, c.loop-n-test.false, c.loop-n.auto.n-end, c.len-n-end.ensures.len, c.requires.from) in
    subst (λ (m : ℕ). AreParents c.args.g.now.nodes m (length c.args.g.now.nodes) c.loop-n.parents) e c.loop-n.invariant
