use Rattle.std.proofs.Common.{◌∙◌, ◌++◌, ◌∷◌, [], ℕ, List, take, get_or, sym, subst, inl, inr, true≢false}
use Rattle.std.specs.List.{Contains}
use Rattle.std.proofs.lemmas.List.{take_more}
use Rattle.pv_graph.specs.Walks.{In}
use Rattle.pv_graph.proofs.Cited.{in_at, in_cases}
use Rattle.pv_alike.proofs.bottom_up.missing_kid.Goals as goal

pub returns-then-not-has : goal.returns-then-not-has
returns-then-not-has c = (
  subst (λ (kids : List ℕ). In kids (get_or c.earlier_kids-k-items.result.now c.loop-k.k-index 0)) c.earlier_kids-k-items.ensures (in_at c.earlier_kids-k-items.result.now c.loop-k.k-index 0 c.loop-k-test.true),
  λ there. true≢false (sym (c.has.ensures.1 there) ∙ c.if-not-has.true),
)

pub loop-k-preserved : goal.loop-k-preserved
loop-k-preserved c k m =
    let items = c.earlier_kids-k-items.result.now in
    let one = get_or items c.loop-k.k-index 0 in
    let both : In (take c.loop-k.k-index items ++ one ∷ []) k = subst (λ (ks : List ℕ). In ks k) (take_more items c.loop-k.k-index 0 c.loop-k-test.true) m in
    elim (in_cases (take c.loop-k.k-index items) one k both) [
      | inl old ↦ c.loop-k.invariant k old
      | inr e ↦ subst (λ (n : ℕ). Contains c.args.order.now n) e (c.has.ensures.0 c.if-not-has.false)
    ]
