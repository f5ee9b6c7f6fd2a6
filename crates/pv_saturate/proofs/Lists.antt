-- What is in a list, looked at element by element.
use Rattle.std.specs.Prelude.{◌≡◌, ℕ, zero, suc, ◌+◌, ◌<◌, List, [], ◌∷◌, ◌++◌, length, map, Some, slice_get}
use Rattle.std.specs.List.{AllByRecursion}
use Rattle.std.proofs.Common.{inl, inr, ap, ◌∙◌, subst, get_or, take}
use Rattle.std.proofs.lemmas.Option.{same_Some}
use Rattle.std.proofs.lemmas.List.{take_more, map-append}
use Rattle.pv_graph.specs.Walks.{In}
use Rattle.pv_graph.proofs.Cited.{in_at, in_cases}

pub get_in : {A : Type 0} (xs : List A) (i : ℕ) (x : A) → slice_get xs i ≡ Some x → In xs x
get_in [] i x e = absurd (cc)
get_in (y ∷ xs) zero x e = inl (same_Some y x e)
get_in (y ∷ xs) (suc i) x e = inr (get_in xs i x e)

pub in_get : {A : Type 0} (xs : List A) (x : A) → In xs x → (i : ℕ) × (slice_get xs i ≡ Some x)
in_get [] x i = absurd i
in_get (y ∷ xs) x (inl e) = (0, ap Some e)
in_get (y ∷ xs) x (inr i) = let r = in_get xs x i in (suc r.0, r.1)

-- ---- a loop over a list that looks for an element

pub found_at : {A : Type 0} (xs : List A) (i : ℕ) (d y : A) → i < length xs → get_or xs i d ≡ y → In xs y
found_at xs i d y lt e = subst (In xs) e (in_at xs i d lt)

pub not_so_far : {A : Type 0} (xs : List A) (i : ℕ) (d y : A) → i < length xs → (In (take i xs) y → ⊥) → (get_or xs i d ≡ y → ⊥) → In (take (i + 1) xs) y → ⊥
not_so_far {A} xs i d y lt before here there = elim (in_cases (take i xs) (get_or xs i d) y (subst (λ (zs : List A). In zs y) (take_more xs i d lt) there)) [ inl old ↦ before old | inr e ↦ here e ]

in_map : {A B : Type 0} (v : A → B) (zs : List A) (z : A) → In zs z → In (map v zs) (v z)
in_map v [] z i = absurd i
in_map v (x ∷ zs) z (inl e) = inl (ap v e)
in_map v (x ∷ zs) z (inr i) = inr (in_map v zs z i)

pub seen_at : {A B : Type 0} (v : A → B) (xs : List A) (i : ℕ) (d : A) (y : B) → i < length xs → v (get_or xs i d) ≡ y → In (map v xs) y
seen_at v xs i d y lt e = subst (In (map v xs)) e (in_map v xs (get_or xs i d) (in_at xs i d lt))

pub not_seen_so_far : {A B : Type 0} (v : A → B) (xs : List A) (i : ℕ) (d : A) (y : B) → i < length xs → (In (map v (take i xs)) y → ⊥) → (v (get_or xs i d) ≡ y → ⊥) → In (map v (take (i + 1) xs)) y → ⊥
not_seen_so_far {A} {B} v xs i d y lt before here there =
    let more : map v (take (i + 1) xs) ≡ map v (take i xs) ++ v (get_or xs i d) ∷ [] = ap (map v) (take_more xs i d lt) ∙ map-append v (take i xs) (get_or xs i d ∷ []) in
    elim (in_cases (map v (take i xs)) (v (get_or xs i d)) y (subst (λ (zs : List B). In zs y) more there)) [ inl old ↦ before old | inr e ↦ here e ]

-- ---- what holds of all elements

pub all_in : {A : Type 0} (P : A → Type 0) (xs : List A) (x : A) → AllByRecursion P xs → In xs x → P x
all_in P [] x all i = absurd i
all_in P (y ∷ xs) x all (inl e) = subst P e all.0
all_in P (y ∷ xs) x all (inr i) = all_in P xs x all.1 i
