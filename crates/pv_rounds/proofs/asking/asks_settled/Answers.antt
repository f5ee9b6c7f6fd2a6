use Rattle.std.proofs.Common.{refl, sym, ◌∙◌, true≢false}
use Rattle.pv_pattern.specs.Patterns.{settled}
use Rattle.pv_pattern.specs.Seen.{side_seen}
use Rattle.pv_saturate.proofs.Lists.{seen_at, not_seen_so_far}
use Rattle.pv_rounds.proofs.asking.asks_settled.Goals as goal

pub returns-then-is_settled : goal.returns-then-is_settled
returns-then-is_settled c = (λ yes. (let r = c.is_settled.ensures.0 c.if-is_settled.true in (r.0, seen_at side_seen c.args.sides.now c.loop-side.side-index _ (settled r.0) c.loop-side-test.true r.1)), λ i. refl)

pub loop-side-preserved : goal.loop-side-preserved
loop-side-preserved c (j, i) = not_seen_so_far side_seen c.args.sides.now c.loop-side.side-index _ (settled j) c.loop-side-test.true (λ k. c.loop-side.invariant (j, k)) (λ e. true≢false (sym (c.is_settled.ensures.1 (j, e)) ∙ c.if-is_settled.false)) i
