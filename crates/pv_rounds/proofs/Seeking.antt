-- A loop over a list that looks for an element of which something holds.
use Rattle.std.specs.Prelude.{◌≡◌, ℕ, ◌+◌, ◌<◌, List, [], ◌∷◌, ◌++◌, length, map, take, refl}
use Rattle.std.proofs.Common.{inl, inr, sym, ap, ◌∙◌, subst, get_or}
use Rattle.std.proofs.lemmas.List.{take_more, map-append}
use Rattle.pv_graph.specs.Walks.{In}
use Rattle.pv_graph.proofs.Cited.{in_cases}
use Rattle.pv_saturate.proofs.Lists.{seen_at}

-- something holds of an element that is seen
abbrev pub Some_is : {B : Type 0} → (B → Type 0) → List B → Type 0
Some_is {B} P ys = (b : B) × In ys b × P b

pub some_at : {A B : Type 0} (v : A → B) (P : B → Type 0) (xs : List A) (i : ℕ) (d : A) → i < length xs → P (v (get_or xs i d)) → Some_is P (map v xs)
some_at v P xs i d lt p = (v (get_or xs i d), seen_at v xs i d (v (get_or xs i d)) lt refl, p)

pub none_so_far : {A B : Type 0} (v : A → B) (P : B → Type 0) (xs : List A) (i : ℕ) (d : A) → i < length xs → (Some_is P (map v (take i xs)) → ⊥) → (P (v (get_or xs i d)) → ⊥) → Some_is P (map v (take (i + 1) xs)) → ⊥
none_so_far {A} {B} v P xs i d lt before here (b, j, p) =
    let more : map v (take (i + 1) xs) ≡ map v (take i xs) ++ v (get_or xs i d) ∷ [] = ap (map v) (take_more xs i d lt) ∙ map-append v (take i xs) (get_or xs i d ∷ []) in
    elim (in_cases (map v (take i xs)) (v (get_or xs i d)) b (subst (λ (zs : List B). In zs b) more j)) [
      | inl old ↦ before (b, old, p)
      | inr e ↦ here (subst P (sym e) p)
    ]

-- something holds of all elements so far
pub all_so_far : {A B : Type 0} (v : A → B) (P : B → Type 0) (xs : List A) (i : ℕ) (d : A) → i < length xs → ((b : B) → In (map v (take i xs)) b → P b) → P (v (get_or xs i d)) → (b : B) → In (map v (take (i + 1) xs)) b → P b
all_so_far {A} {B} v P xs i d lt before here b j =
    let more : map v (take (i + 1) xs) ≡ map v (take i xs) ++ v (get_or xs i d) ∷ [] = ap (map v) (take_more xs i d lt) ∙ map-append v (take i xs) (get_or xs i d ∷ []) in
    elim (in_cases (map v (take i xs)) (v (get_or xs i d)) b (subst (λ (zs : List B). In zs b) more j)) [
      | inl old ↦ before b old
      | inr e ↦ subst P e here
    ]
