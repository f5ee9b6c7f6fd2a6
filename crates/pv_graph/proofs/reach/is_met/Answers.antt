use Rattle.std.proofs.Common.{◌≡◌, ◌∙◌, ℕ, true, true≢false, get_or, slice_get, refl, sym, ap, subst, inl, inr, arith}
use Rattle.std.proofs.lemmas.Option.{slice_get-get_or, slice_get_within, same_Some}
use Rattle.pv_graph.specs.Reach.{IsMarked, follows}
use Rattle.pv_graph.proofs.Reaching.{low_or_last}
use Rattle.pv_graph.proofs.reach.is_met.Goals as goal

pub returns-then-is_met_at : goal.returns-then-is_met_at
returns-then-is_met_at c =
    let met = c.if-is_met_at.ensures.0 refl in
    ((λ t. (c.loop-place.place, get_or c.args.kids.now c.loop-place.place 0, slice_get-get_or c.args.kids.now c.loop-place.place 0 c.loop-place-test.true, met.0, met.1)), (λ h. refl))

pub loop-place-preserved : goal.loop-place-preserved
loop-place-preserved c p k lt at marked f = elim (low_or_last p c.loop-place.place lt) [
  | inl low ↦ c.loop-place.invariant p k low at marked f
  | inr last ↦
      let same : k ≡ get_or c.args.kids.now c.loop-place.place 0 = same_Some k (get_or c.args.kids.now c.loop-place.place 0) (sym at ∙ ap (slice_get c.args.kids.now) last ∙ slice_get-get_or c.args.kids.now c.loop-place.place 0 c.loop-place-test.true) in
      true≢false (sym (c.if-is_met_at.ensures.1 (subst (λ (n : ℕ). IsMarked c.args.known.now n) same marked, subst (λ (n : ℕ). follows c.args.look c.args.op.now n ≡ true) last f)))
]

pub returns : goal.returns
returns c = (
  (λ t. absurd (let z = t in cc)),
  (λ h. absurd (c.loop-place.invariant h.0 h.1 (let z = slice_get_within c.args.kids.now h.0 h.1 h.2 in omega (arith, c.loop-place-test.false)) h.2 h.3 h.4)),
)
