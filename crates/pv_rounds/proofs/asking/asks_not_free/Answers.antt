use Rattle.std.proofs.Common.{refl, sym, ◌∙◌, true≢false}
use Rattle.pv_pattern.specs.Patterns.{not_free}
use Rattle.pv_pattern.specs.Seen.{side_seen}
use Rattle.pv_saturate.proofs.Lists.{seen_at, not_seen_so_far}
use Rattle.pv_rounds.proofs.asking.asks_not_free.Goals as goal

pub returns-then-is_not_free : goal.returns-then-is_not_free
returns-then-is_not_free c = (λ yes. (let r = c.is_not_free.ensures.0 c.if-is_not_free.true in (r.0, seen_at side_seen c.args.sides.now c.loop-side.side-index _ (not_free r.0) c.loop-side-test.true r.1)), λ i. refl)

pub loop-side-preserved : goal.loop-side-preserved
loop-side-preserved c (j, i) = not_seen_so_far side_seen c.args.sides.now c.loop-side.side-index _ (not_free j) c.loop-side-test.true (λ k. c.loop-side.invariant (j, k)) (λ e. true≢false (sym (c.is_not_free.ensures.1 (j, e)) ∙ c.if-is_not_free.false)) i
