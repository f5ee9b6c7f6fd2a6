use Rattle.std.proofs.Common.{refl, sym, ◌∙◌, true≢false}
use Rattle.pv_pattern.specs.Patterns.{not_free}
use Rattle.pv_pattern.specs.Seen.{side_seen}
use Rattle.pv_saturate.proofs.Lists.{seen_at, not_seen_so_far}
use Rattle.pv_saturate.proofs.choice.asks_not_free.Goals as goal

pub returns-then-is_not_free : goal.returns-then-is_not_free
returns-then-is_not_free c = (λ yes. seen_at side_seen c.args.sides.now c.loop-side.side-index _ (not_free c.args.j) c.loop-side-test.true (c.is_not_free.ensures.0 c.if-is_not_free.true), λ i. refl)

pub loop-side-preserved : goal.loop-side-preserved
loop-side-preserved c = not_seen_so_far side_seen c.args.sides.now c.loop-side.side-index _ (not_free c.args.j) c.loop-side-test.true c.loop-side.invariant (λ e. true≢false (sym (c.is_not_free.ensures.1 e) ∙ c.if-is_not_free.false))
