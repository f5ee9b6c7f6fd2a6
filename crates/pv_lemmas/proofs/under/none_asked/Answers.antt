use Rattle.std.proofs.Common.{ℕ, ◌+◌, sym, ap, ◌∙◌, subst}
use Rattle.pv_lemmas.specs.Asked.{Asked, IsAsked}
use Rattle.pv_lemmas.proofs.Asking.{none_push}
use Rattle.pv_lemmas.proofs.under.none_asked.Goals as goal

pub loop-preserved : goal.loop-preserved
loop-preserved c = record {
  len = c.in_ok-push.ensures.len ∙ ap (λ (n : ℕ). n + 1) c.loop.invariant.len;
  none = subst (λ (asked : Asked). (p n : ℕ) → IsAsked asked p n → ⊥) (sym c.in_ok-push.ensures.items) (none_push c.loop.asked.items c.new.result c.new.ensures.items c.loop.invariant.none);
}
