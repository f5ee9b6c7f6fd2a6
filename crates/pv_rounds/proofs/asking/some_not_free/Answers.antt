use Rattle.std.proofs.Common.{refl, sym, ◌∙◌, subst, true≢false}
use Rattle.pv_saturate.specs.declared.decoding.Decoded.{Decoded}
use Rattle.pv_saturate.specs.Decoding.{decoded_seen}
use Rattle.pv_rounds.specs.Asking.{AsksAt}
use Rattle.pv_rounds.proofs.Seeking.{some_at, none_so_far}
use Rattle.pv_rounds.proofs.asking.some_not_free.Goals as goal

pub returns-then-is_at : goal.returns-then-is_at
returns-then-is_at c =
    ((λ yes. some_at decoded_seen (λ m. AsksAt m c.args.depth) c.args.list.now c.loop-m.m-index c.m-item.result c.loop-m-test.true (subst (λ (d : Decoded). AsksAt (decoded_seen d) c.args.depth) c.m-item.is (c.is_at.ensures.0 c.if-is_at.true))), λ s. refl)

pub loop-m-preserved : goal.loop-m-preserved
loop-m-preserved c = none_so_far decoded_seen (λ m. AsksAt m c.args.depth) c.args.list.now c.loop-m.m-index c.m-item.result c.loop-m-test.true c.loop-m.invariant (λ p.
    true≢false (sym (c.is_at.ensures.1 (subst (λ (d : Decoded). AsksAt (decoded_seen d) c.args.depth) (sym c.m-item.is) p)) ∙ c.if-is_at.false))
