use Rattle.std.proofs.Common.{List, map, refl, sym, ◌∙◌, subst, true≢false}
use Rattle.pv_pattern.specs.declared.pattern.Side.{Side}
use Rattle.pv_pattern.specs.Seen.{side_seen}
use Rattle.pv_saturate.specs.declared.decoding.Decoded.{Decoded}
use Rattle.pv_saturate.specs.Decoding.{decoded_seen}
use Rattle.pv_rounds.specs.Asking.{AsksSettled}
use Rattle.pv_rounds.proofs.Seeking.{some_at, none_so_far}
use Rattle.pv_rounds.proofs.asking.some_settled.Goals as goal

pub returns-then-asks_settled : goal.returns-then-asks_settled
returns-then-asks_settled c =
    let asks : AsksSettled (decoded_seen c.m-item.result).entry.sides = subst (λ (ss : List Side). AsksSettled (map side_seen ss)) c.deref.ensures.value (c.asks_settled.ensures.0 c.if-asks_settled.true) in
    ((λ yes. some_at decoded_seen (λ m. AsksSettled m.entry.sides) c.args.list.now c.loop-m.m-index c.m-item.result c.loop-m-test.true (subst (λ (d : Decoded). AsksSettled (decoded_seen d).entry.sides) c.m-item.is asks)), λ s. refl)

pub loop-m-preserved : goal.loop-m-preserved
loop-m-preserved c = none_so_far decoded_seen (λ m. AsksSettled m.entry.sides) c.args.list.now c.loop-m.m-index c.m-item.result c.loop-m-test.true c.loop-m.invariant (λ p.
    let here : AsksSettled (decoded_seen c.m-item.result).entry.sides = subst (λ (d : Decoded). AsksSettled (decoded_seen d).entry.sides) (sym c.m-item.is) p in
    true≢false (sym (c.asks_settled.ensures.1 (subst (λ (ss : List Side). AsksSettled (map side_seen ss)) (sym c.deref.ensures.value) here)) ∙ c.if-asks_settled.false))
