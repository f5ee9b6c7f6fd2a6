-- Two ordered lists of matches in one: what it holds, and that it is ordered.
use Rattle.std.specs.Prelude.{◌≡◌, ◌⊎◌, ◌<◌, ◌≤◌, ℕ, zero, suc, Bool, true, false, nat_lt, List, [], ◌∷◌, length, take, min, refl}
use Rattle.std.specs.Bool.{OnTrue, OnFalse}
use Rattle.std.specs.Cmp.{IsTotalOrder}
use Rattle.std.specs.List.{AllByRecursion}
use Rattle.std.specs.List.Sorted.{IsStrictlySortedBy}
use Rattle.std.specs.Ordering.{match_ordering, ordering_reverse}
use Rattle.std.specs.declared.cmp.Ordering.{Ordering}
use Rattle.std.specs.declared.cmp.Ordering.TheVariants.{Less, Equal, Greater}
use Rattle.std.specs.Set.{merge_step, sorted_merge}
use Rattle.std.proofs.Common.{inl, inr, sym, ap, ◌∙◌, subst, arith, tests}
use Rattle.std.proofs.lemmas.List.{length-take, take_all}
use Rattle.pv_graph.specs.Walks.{In}
use Rattle.pv_match.specs.declared.found.Match.{Match}
use Rattle.pv_match.specs.Orders.{match_cmp}
use Rattle.pv_match.specs.Gathering.{HasOne, AreFrom, GathersAll}
use Rattle.pv_match.proofs.Ordered.{ordered}

-- ---- the first of a list

in_take : {X : Type 0} (n : ℕ) (xs : List X) (x : X) → In (take n xs) x → In xs x
in_take zero xs x i = absurd i
in_take (suc n) [] x i = i
in_take (suc n) (y ∷ xs) x (inl e) = inl e
in_take (suc n) (y ∷ xs) x (inr i) = inr (in_take n xs x i)

all_take : {X : Type 0} (P : X → Type 0) (n : ℕ) (xs : List X) → AllByRecursion P xs → AllByRecursion P (take n xs)
all_take P zero xs a = tt
all_take P (suc n) [] a = tt
all_take P (suc n) (x ∷ xs) a = (a.0, all_take P n xs a.1)

sorted_take : {X : Type 0} (cmp : X → X → Ordering) (n : ℕ) (xs : List X) → IsStrictlySortedBy cmp xs → IsStrictlySortedBy cmp (take n xs)
unfolding IsStrictlySortedBy
sorted_take cmp zero xs s = tt
sorted_take cmp (suc n) [] s = tt
sorted_take cmp (suc n) (x ∷ xs) s = (all_take (λ y. cmp x y ≡ Less) n xs s.0, sorted_take cmp n xs s.1)

pub none_ordered : {X : Type 0} (cmp : X → X → Ordering) → IsStrictlySortedBy cmp []
unfolding IsStrictlySortedBy
none_ordered cmp = tt

-- ---- two ordered lists that are merged are ordered

all_under : {X : Type 0} (P Q : X → Type 0) → ((x : X) → P x → Q x) → (xs : List X) → AllByRecursion P xs → AllByRecursion Q xs
all_under P Q f [] a = tt
all_under P Q f (x ∷ xs) a = (f x a.0, all_under P Q f xs a.1)

module _ {K : Type 0} (R : K → K → Ordering) where
  all_step : (P : K → Type 0) (x : K) (xs : List K) (on : List K → List K) → P x → AllByRecursion P xs → ((ys : List K) → AllByRecursion P ys → AllByRecursion P (on ys))
      → (ys : List K) → AllByRecursion P ys → AllByRecursion P (merge_step R true x xs on ys)
  all_step P x xs on p a h [] b = (p, a)
  all_step P x xs on p a h (y ∷ ys) b = go (R x y) (all_step P x xs on p a h ys b.1)
    where
      go : (o : Ordering) → AllByRecursion P (merge_step R true x xs on ys) → AllByRecursion P (match_ordering o (x ∷ on (y ∷ ys)) (x ∷ on ys) (y ∷ merge_step R true x xs on ys))
      go Less rest = (p, h (y ∷ ys) b)
      go Equal rest = (p, h ys b.1)
      go Greater rest = (b.0, rest)

  all_merged : (P : K → Type 0) (xs ys : List K) → AllByRecursion P xs → AllByRecursion P ys → AllByRecursion P (sorted_merge R true xs ys)
  all_merged P [] ys a b = b
  all_merged P (x ∷ xs) ys a b = all_step P x xs (sorted_merge R true xs) a.0 a.1 (λ zs. all_merged P xs zs a.1) ys b

  module _ (total : IsTotalOrder R) where
    abbrev Below : K → List K → Type 0
    Below x ys = AllByRecursion (λ y. R x y ≡ Less) ys

    below_after : (x y : K) (ys : List K) → R x y ≡ Less → Below y ys → Below x ys
    below_after x y ys l a = all_under (λ z. R y z ≡ Less) (λ z. R x z ≡ Less) (λ z m. total.trans x y z l m) ys a

    below_level : (x y : K) (ys : List K) → R x y ≡ Equal → Below y ys → Below x ys
    below_level x y ys e a = all_under (λ z. R y z ≡ Less) (λ z. R x z ≡ Less) (λ z m. total.congr x y z e ∙ m) ys a

    sorted_step : (x : K) (xs : List K) → IsStrictlySortedBy R (x ∷ xs) → ((ys : List K) → IsStrictlySortedBy R ys → IsStrictlySortedBy R (sorted_merge R true xs ys))
        → (ys : List K) → IsStrictlySortedBy R ys → IsStrictlySortedBy R (sorted_merge R true (x ∷ xs) ys)
    unfolding IsStrictlySortedBy
    sorted_step x xs s h [] t = s
    sorted_step x xs s h (y ∷ ys) t = go (R x y) refl (sorted_step x xs s h ys t.1)
      where
        go : (o : Ordering) → R x y ≡ o → IsStrictlySortedBy R (sorted_merge R true (x ∷ xs) ys)
            → IsStrictlySortedBy R (match_ordering o (x ∷ sorted_merge R true xs (y ∷ ys)) (x ∷ sorted_merge R true xs ys) (y ∷ sorted_merge R true (x ∷ xs) ys))
        go Less e rest = (all_merged (λ z. R x z ≡ Less) xs (y ∷ ys) s.0 (e, below_after x y ys e t.0), h (y ∷ ys) t)
        go Equal e rest = (all_merged (λ z. R x z ≡ Less) xs ys s.0 (below_level x y ys e t.0), h ys t.1)
        go Greater e rest =
            let under : R y x ≡ Less = total.antisymm y x ∙ ap ordering_reverse e in
            (all_merged (λ z. R y z ≡ Less) (x ∷ xs) ys (under, below_after y x xs under s.0) t.0, rest)

    sorted_merged : (xs ys : List K) → IsStrictlySortedBy R xs → IsStrictlySortedBy R ys → IsStrictlySortedBy R (sorted_merge R true xs ys)
    unfolding IsStrictlySortedBy
    sorted_merged [] ys s t = t
    sorted_merged (x ∷ xs) ys s t = sorted_step x xs s (λ zs. sorted_merged xs zs s.1) ys t

-- .. and up to some length
pub ordered_front : (n : ℕ) (xs ys list : List Match) → list ≡ take n (sorted_merge match_cmp true xs ys) → IsStrictlySortedBy match_cmp xs → IsStrictlySortedBy match_cmp ys → IsStrictlySortedBy match_cmp list
ordered_front n xs ys list e s t = subst (IsStrictlySortedBy match_cmp) (sym e) (sorted_take match_cmp n (sorted_merge match_cmp true xs ys) (sorted_merged match_cmp ordered.total xs ys s t))

-- ---- what two merged lists hold

abbrev merged : List Match → List Match → List Match
merged = sorted_merge match_cmp true

module _ (x : Match) (xs : List Match) (on : List Match → List Match) where
  abbrev step : List Match → List Match
  step = merge_step match_cmp true x xs on

  -- each is from one of the two
  from_step : ((ys : List Match) → AreFrom xs ys (on ys)) → (ys : List Match) → AreFrom (x ∷ xs) ys (step ys)
  from_step h [] z i = inl i
  from_step h (y ∷ ys) z i = go (match_cmp x y) (from_step h ys z) i
    where
      go : (o : Ordering) → (In (step ys) z → In (x ∷ xs) z ⊎ In ys z) → In (match_ordering o (x ∷ on (y ∷ ys)) (x ∷ on ys) (y ∷ step ys)) z → In (x ∷ xs) z ⊎ In (y ∷ ys) z
      go Less rest (inl e) = inl (inl e)
      go Less rest (inr j) = elim (h (y ∷ ys) z j) [ inl k ↦ inl (inr k) | inr k ↦ inr k ]
      go Equal rest (inl e) = inl (inl e)
      go Equal rest (inr j) = elim (h ys z j) [ inl k ↦ inl (inr k) | inr k ↦ inr (inr k) ]
      go Greater rest (inl e) = inr (inl e)
      go Greater rest (inr j) = elim (rest j) [ inl k ↦ inl k | inr k ↦ inr (inr k) ]

  -- each of the first list is there
  kept_step : ((ys : List Match) (z : Match) → In xs z → In (on ys) z) → (ys : List Match) (z : Match) → In (x ∷ xs) z → In (step ys) z
  kept_step h [] z i = i
  kept_step h (y ∷ ys) z i = go (match_cmp x y) (kept_step h ys z) i
    where
      go : (o : Ordering) → (In (x ∷ xs) z → In (step ys) z) → In (x ∷ xs) z → In (match_ordering o (x ∷ on (y ∷ ys)) (x ∷ on ys) (y ∷ step ys)) z
      go Less rest (inl e) = inl e
      go Less rest (inr j) = inr (h (y ∷ ys) z j)
      go Equal rest (inl e) = inl e
      go Equal rest (inr j) = inr (h ys z j)
      go Greater rest j = inr (rest j)

  -- .. and one for each of the second
  has_step : ((ys : List Match) (z : Match) → In ys z → HasOne (on ys) z) → (ys : List Match) (z : Match) → In ys z → HasOne (step ys) z
  has_step h [] z i = absurd i
  has_step h (y ∷ ys) z i = go (match_cmp x y) refl (has_step h ys z) i
    where
      more : (w : Match) (list : List Match) → HasOne list z → HasOne (w ∷ list) z
      more w list r = (r.0, inr r.1, r.2)

      go : (o : Ordering) → match_cmp x y ≡ o → (In ys z → HasOne (step ys) z) → In (y ∷ ys) z → HasOne (match_ordering o (x ∷ on (y ∷ ys)) (x ∷ on ys) (y ∷ step ys)) z
      go Less e rest j = more x (on (y ∷ ys)) (h (y ∷ ys) z j)
      go Equal e rest (inl f) = let one = (ordered.exact x y).0 e in subst (HasOne (x ∷ on ys)) f (x, inl refl, (sym one.0, sym one.1, sym one.2))
      go Equal e rest (inr j) = more x (on ys) (h ys z j)
      go Greater e rest (inl f) = (z, inl f, (refl, refl, refl))
      go Greater e rest (inr j) = more y (step ys) (rest j)

merged_from : (xs ys : List Match) → AreFrom xs ys (merged xs ys)
merged_from [] ys z i = inr i
merged_from (x ∷ xs) ys z i = from_step x xs (merged xs) (merged_from xs) ys z i

merged_keeps : (xs ys : List Match) (z : Match) → In xs z → In (merged xs ys) z
merged_keeps [] ys z i = absurd i
merged_keeps (x ∷ xs) ys z i = kept_step x xs (merged xs) (merged_keeps xs) ys z i

merged_has : (xs ys : List Match) (z : Match) → In ys z → HasOne (merged xs ys) z
merged_has [] ys z i = (z, i, (refl, refl, refl))
merged_has (x ∷ xs) ys z i = has_step x xs (merged xs) (merged_has xs) ys z i

-- ---- up to one more than a limit

pub past_limit : (limit n long : ℕ) → n ≡ long → nat_lt limit n ≡ true → limit < long
past_limit limit n long e t = grind (arith, tests, e, t)

pub within_limit : (limit n long : ℕ) → n ≡ long → nat_lt limit n ≡ false → long ≤ limit
within_limit limit n long e t = grind (arith, tests, e, t)

module _ (limit : ℕ) (xs ys list : List Match) (is : list ≡ take (suc limit) (merged xs ys)) where
  pub united_over : (over : Bool) → (over ≡ true → limit < length list) → OnTrue over ((length list ≡ suc limit) × AreFrom xs ys list)
  united_over true past = (
    (let long : length list ≡ min (suc limit) (length (merged xs ys)) = ap length is ∙ length-take (suc limit) (merged xs ys) in
        let more = past refl in
        omega arith),
    λ z i. merged_from xs ys z (in_take (suc limit) (merged xs ys) z (subst (λ (l : List Match). In l z) is i)),
  )
  united_over false past = tt

  pub united_all : (over : Bool) → (over ≡ false → length list ≤ limit) → OnFalse over ((length list ≤ limit) × GathersAll xs ys list)
  united_all true within = tt
  united_all false within =
      let few = within refl in
      let long : length list ≡ min (suc limit) (length (merged xs ys)) = ap length is ∙ length-take (suc limit) (merged xs ys) in
      let low : length (merged xs ys) ≤ suc limit = omega arith in
      let whole : merged xs ys ≡ list = sym (is ∙ take_all (suc limit) (merged xs ys) low) in (
        few,
        subst (GathersAll xs ys) whole
            (record { some_ = record { each = merged_from xs ys; kept = merged_keeps xs ys }; has = merged_has xs ys }),
      )
