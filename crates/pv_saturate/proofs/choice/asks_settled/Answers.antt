use Rattle.std.proofs.Common.{refl, sym, ◌∙◌, true≢false}
use Rattle.pv_pattern.specs.Patterns.{settled}
use Rattle.pv_pattern.specs.Seen.{side_seen}
use Rattle.pv_saturate.proofs.Lists.{seen_at, not_seen_so_far}
use Rattle.pv_saturate.proofs.choice.asks_settled.Goals as goal

pub returns-then-is_settled : goal.returns-then-is_settled
returns-then-is_settled c = (λ yes. seen_at side_seen c.args.sides.now c.loop-side.side-index _ (settled c.args.j) c.loop-side-test.true (c.is_settled.ensures.0 c.if-is_settled.true), λ i. refl)

pub loop-side-preserved : goal.loop-side-preserved
loop-side-preserved c = not_seen_so_far side_seen c.args.sides.now c.loop-side.side-index _ (settled c.args.j) c.loop-side-test.true c.loop-side.invariant (λ e. true≢false (sym (c.is_settled.ensures.1 e) ∙ c.if-is_settled.false))
