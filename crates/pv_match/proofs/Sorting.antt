-- A list that is sorted, and then loses the later ones of equal elements.
use Rattle.std.specs.Prelude.{◌≡◌, Bool, true, List, refl}
use Rattle.std.specs.Cmp.{IsTotalOrder, IsEquivalence}
use Rattle.std.specs.List.{Any, Contains, dedup}
use Rattle.std.specs.List.Sorted.{IsPermutation, IsSorted, IsStrictlySortedBy}
use Rattle.std.specs.Ordering.{eq_by_cmp, is_eq}
use Rattle.std.specs.declared.cmp.Ordering.{Ordering}
use Rattle.std.specs.declared.cmp.Ordering.TheVariants.{Less, Equal, Greater}
use Rattle.std.proofs.Common.{sym, ◌∙◌, subst}
use Rattle.std.proofs.lemmas.List.Kept.{IsStrictlySortedBy-dedup, Contains-from_dedup, Any-dedup}
use Rattle.std.proofs.lemmas.List.Sorted.{Contains-permutation, IsPermutation-sym}

is_equal : (o : Ordering) → is_eq o ≡ true → o ≡ Equal
is_equal Less e = absurd (cc)
is_equal Equal e = refl
is_equal Greater e = absurd (cc)

module _ {X : Type 0} (R : X → X → Ordering) (E : X → X → Bool) (ties : (x y : X) → E x y ≡ eq_by_cmp R x y) (list sorted once : List X) (is : once ≡ dedup E sorted) where
  pub once_ordered : IsTotalOrder R → IsSorted R sorted → IsStrictlySortedBy R once
  once_ordered total up = subst (IsStrictlySortedBy R) (sym is) (IsStrictlySortedBy-dedup total ties sorted up)

  pub once_within : IsPermutation list sorted → (x : X) → Contains once x → Contains list x
  once_within moved x h = Contains-permutation sorted list x (IsPermutation-sym list sorted moved) (Contains-from_dedup E sorted x (subst (λ (l : List X). Contains l x) is h))

  pub once_kept : IsEquivalence E → IsPermutation list sorted → (x : X) → Contains list x → Any (λ y. R x y ≡ Equal) once
  once_kept same moved x h =
      let k = Any-dedup same sorted x (Contains-permutation list sorted x moved h) in
      subst (Any (λ y. R x y ≡ Equal)) (sym is) (k.0, k.1, k.2, k.3, is_equal (R x k.1) (sym (ties x k.1) ∙ k.4))
