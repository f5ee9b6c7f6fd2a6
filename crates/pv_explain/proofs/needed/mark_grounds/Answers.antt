use Rattle.std.proofs.lemmas.Option.{slice_get_within}
use Rattle.pv_explain.proofs.Marking.{more_refl, more_trans, more_wider}
use Rattle.pv_explain.proofs.Marked.{none_rested, rests_next}
use Rattle.pv_explain.proofs.needed.mark_grounds.Goals as goal
use Rattle.std.proofs.Common.{◌≡◌, ◌∙◌, ◌-◌, arith, length, rules, true}

pub loop-k-preserved : goal.loop-k-preserved
loop-k-preserved c =
    let old = c.loop-k.needed.items in
    let new = c.mark_ground.new.needed.items in
    let n = c.len-joins.result in
    let k = c.loop-k.k in
    record {
      more = more_trans n c.args.needed.now.items old new c.loop-k.invariant.more (more_wider (n - 1 - k) n old new (omega arith) c.in_ok-mark_ground.ensures.more);
      blocks = c.mark_ground.ensures.blocks ∙ c.loop-k.invariant.blocks;
      rested = c.in_ok-mark_ground.ensures.rested;
      rests = rests_next c.args.search.now old new n k c.loop-k-test.true c.in_ok-mark_ground.ensures.more c.loop-k.invariant.rests c.in_ok-mark_ground.ensures.rests;
    }

pub loop-k-init : goal.loop-k-init
loop-k-init c =
    let s = c.args.search.now in
    let needed = c.args.needed.now.items in
    let rested = c.in_ok-rested.rested.items in
    let long : length rested ≡ length s.blocks.now = search rules in
    record {
      more = more_refl c.len-joins.result needed;
      blocks = long;
      rested = none_rested s needed rested (length s.blocks.now) (c.in_ok-rested.ensures.items_if_clones_equal (λ y e. e));
      rests = λ i high on. absurd (let z = slice_get_within needed i true on in omega (arith, z, high, c.len-joins.ensures));
    }
