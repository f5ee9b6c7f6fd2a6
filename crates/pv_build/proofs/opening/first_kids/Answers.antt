use Rattle.std.proofs.Common.{◌≡◌, ℕ, ◌+◌, List, [], ◌∷◌, length, length-append, Option, Some, slice_get, sym, ap, ◌∙◌, subst}
use Rattle.pv_build.proofs.Words.{first_at}
use Rattle.pv_layout.proofs.Cited.{each_push}
use Rattle.pv_build.proofs.opening.first_kids.Goals as goal

pub loop-n-preserved : goal.loop-n-preserved
loop-n-preserved c =
    let old : List (Option ℕ) = c.loop-n.kids.items in
    let P : ℕ → Option ℕ → Type 0 = λ s kid. kid ≡ first_at c.args.carried.now c.args.entering.now s in
    record {
      size = ap length c.in_ok-push.ensures.items ∙ length-append old (c.first_kid.result ∷ []) ∙ ap (λ (n : ℕ). n + 1) c.loop-n.invariant.size;
      each = subst (λ (kids : List (Option ℕ)). (s : ℕ) (kid : Option ℕ) → slice_get kids s ≡ Some kid → P s kid) (sym c.in_ok-push.ensures.items)
          (each_push P P old c.first_kid.result c.loop-n.n c.loop-n.invariant.size (λ s kid is. is) c.loop-n.invariant.each (c.first_kid.ensures ∙ ap (first_at c.args.carried.now c.args.entering.now) c.with_number.ensures));
    }
