use Rattle.std.proofs.Common.{ℕ, ◌+◌, sym, ap, ◌∙◌, subst, arith}
use Rattle.pv_graph.specs.declared.reach.Use.{Use}
use Rattle.pv_graph.specs.Reach.{Uses, IsUse}
use Rattle.pv_graph.proofs.Reaching.{none_more, none_in_empty}
use Rattle.pv_graph.proofs.reach.no_uses.Goals as goal

pub loop-init : goal.loop-init
loop-init c = record { len = c.new-uses.ensures.len; none = none_in_empty c.new-uses.result.items c.new-uses.ensures.items }

pub loop-preserved : goal.loop-preserved
loop-preserved c = record {
  len = c.in_ok-push.ensures.len ∙ ap (λ (n : ℕ). n + 1) c.loop.invariant.len;
  none = subst (λ (uses : Uses). (k : ℕ) (u : Use) → IsUse uses k u → ⊥) (sym c.in_ok-push.ensures.items) (none_more c.loop.uses.items c.new.result c.new.ensures.items c.loop.invariant.none);
}

pub returns-clause-len : goal.returns-clause-len
returns-clause-len c = omega (arith, c.loop.invariant.len)
