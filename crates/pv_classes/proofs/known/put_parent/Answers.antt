use Rattle.std.proofs.Common.{◌<◌, ℕ, length, get_or, ◌∙◌, ap, subst, sym}
use Rattle.std.proofs.lemmas.List.{length-set}
use Rattle.std.proofs.lemmas.List.Elements.{Contains-get_or}
use Rattle.pv_classes.proofs.Learnt.{tells_more}
use Rattle.pv_classes.proofs.known.put_parent.Goals as goal

pub put-requires : goal.put-requires
put-requires c =
    subst (λ (m : ℕ). get_or c.args.kids.now c.loop-k.k-index 0 < m) (sym c.loop-k.invariant.long)
    (c.requires (get_or c.args.kids.now c.loop-k.k-index 0) (Contains-get_or c.args.kids.now c.loop-k.k-index 0 c.loop-k-test.true))

pub loop-k-preserved : goal.loop-k-preserved
loop-k-preserved c =
    let low = subst (λ (m : ℕ). get_or c.args.kids.now c.loop-k.k-index 0 < m) (sym c.loop-k.invariant.long)
    (c.requires (get_or c.args.kids.now c.loop-k.k-index 0) (Contains-get_or c.args.kids.now c.loop-k.k-index 0 c.loop-k-test.true)) in
    record {
      long = ap length c.in_ok-put.ensures.ok ∙ length-set c.loop-k.parents _ _ ∙ c.loop-k.invariant.long;
      tells = tells_more c.args.parents.now c.loop-k.parents c.put.new.self c.args.kids.now c.loop-k.k-index c.args.n c.loop-k-test.true low c.in_ok-put.ensures.ok c.loop-k.invariant.tells;
    }
