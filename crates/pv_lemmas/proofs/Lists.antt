-- Lists under a function, and lists side by side.
use Rattle.std.specs.Prelude.{◌≡◌, ◌⊎◌, ℕ, zero, suc, Bool, true, false, List, [], ◌∷◌, ◌++◌, length, map, reverse, Some, slice_get, refl}
use Rattle.std.specs.Option.{option_map}
use Rattle.std.specs.List.{AllZip, AllByRecursion}
use Rattle.std.proofs.Common.{inl, inr, sym, ap, ◌∙◌, subst, arith}
use Rattle.std.proofs.lemmas.List.{reverse-append}
use Rattle.std.proofs.lemmas.Option.{slice_get-map, same_Some}
use Rattle.pv_graph.specs.Walks.{In}

pub bool_cases : (t : Bool) → (t ≡ true) ⊎ (t ≡ false)
bool_cases true = inl refl
bool_cases false = inr refl

-- ---- under a function

pub in_mapped : {A B : Type 0} (f : A → B) (xs : List A) (y : B) → In (map f xs) y → (x : A) × In xs x × (f x ≡ y)
in_mapped f [] y h = absurd h
in_mapped f (x ∷ xs) y (inl e) = (x, inl refl, e)
in_mapped f (x ∷ xs) y (inr h) = let r = in_mapped f xs y h in (r.0, inr r.1, r.2)

pub get_map : {A B : Type 0} (f : A → B) (xs : List A) (k : ℕ) (x : A) → slice_get xs k ≡ Some x → slice_get (map f xs) k ≡ Some (f x)
get_map f xs k x e = slice_get-map f xs k ∙ ap (option_map f) e

pub get_mapped : {A B : Type 0} (f : A → B) (xs : List A) (k : ℕ) (y : B) → slice_get (map f xs) k ≡ Some y → (x : A) × (slice_get xs k ≡ Some x) × (f x ≡ y)
get_mapped f [] k y e = absurd (cc)
get_mapped f (x ∷ xs) zero y e = (x, refl, same_Some (f x) y e)
get_mapped f (x ∷ xs) (suc k) y e = get_mapped f xs k y e

-- ---- side by side

pub zip_map : {A B C D : Type 0} (R : A → B → Type 0) (S : C → D → Type 0) (f : A → C) (g : B → D) → ((x : A) (y : B) → R x y → S (f x) (g y)) → (xs : List A) (ys : List B) → AllZip R xs ys → AllZip S (map f xs) (map g ys)
zip_map R S f g h [] [] z = tt
zip_map R S f g h [] (y ∷ ys) z = absurd z
zip_map R S f g h (x ∷ xs) [] z = absurd z
zip_map R S f g h (x ∷ xs) (y ∷ ys) z = (h x y z.0, zip_map R S f g h xs ys z.1)

pub zip_left : {A B C : Type 0} (R : A → B → Type 0) (S : C → B → Type 0) (f : A → C) → ((x : A) (y : B) → R x y → S (f x) y) → (xs : List A) (ys : List B) → AllZip R xs ys → AllZip S (map f xs) ys
zip_left R S f h [] [] z = tt
zip_left R S f h [] (y ∷ ys) z = absurd z
zip_left R S f h (x ∷ xs) [] z = absurd z
zip_left R S f h (x ∷ xs) (y ∷ ys) z = (h x y z.0, zip_left R S f h xs ys z.1)

pub zip_flip : {A : Type 0} (R S : A → A → Type 0) → ((x y : A) → R x y → S y x) → (xs ys : List A) → AllZip R xs ys → AllZip S ys xs
zip_flip R S h [] [] z = tt
zip_flip R S h [] (y ∷ ys) z = absurd z
zip_flip R S h (x ∷ xs) [] z = absurd z
zip_flip R S h (x ∷ xs) (y ∷ ys) z = (h x y z.0, zip_flip R S h xs ys z.1)

pub zip_self : {A : Type 0} (R : A → A → Type 0) → ((x : A) → R x x) → (xs : List A) → AllZip R xs xs
zip_self R h [] = tt
zip_self R h (x ∷ xs) = (h x, zip_self R h xs)

-- two lists of one length, by the elements at each place
pub zip_places : {A B : Type 0} (R : A → B → Type 0) (xs : List A) (ys : List B) → length xs ≡ length ys → ((i : ℕ) (x : A) (y : B) → slice_get xs i ≡ Some x → slice_get ys i ≡ Some y → R x y) → AllZip R xs ys
zip_places R [] [] e h = tt
zip_places R [] (y ∷ ys) e h = absurd (omega (arith, e))
zip_places R (x ∷ xs) [] e h = absurd (omega (arith, e))
zip_places R (x ∷ xs) (y ∷ ys) e h = (h 0 x y refl refl, zip_places R xs ys (omega (arith, e)) (λ i a b p q. h (suc i) a b p q))

pub zip_length : {A B : Type 0} (R : A → B → Type 0) (xs : List A) (ys : List B) → AllZip R xs ys → length xs ≡ length ys
zip_length R [] [] z = refl
zip_length R [] (y ∷ ys) z = absurd z
zip_length R (x ∷ xs) [] z = absurd z
zip_length R (x ∷ xs) (y ∷ ys) z = ap suc (zip_length R xs ys z.1)

-- what stands beside an element
pub zip_at : {A B : Type 0} (R : A → B → Type 0) (xs : List A) (ys : List B) (k : ℕ) (y : B) → AllZip R xs ys → slice_get ys k ≡ Some y → (x : A) × (slice_get xs k ≡ Some x) × R x y
zip_at R xs [] k y z e = absurd (cc)
zip_at R [] (b ∷ ys) k y z e = absurd z
zip_at R (x ∷ xs) (b ∷ ys) zero y z e = (x, refl, subst (R x) (same_Some b y e) z.0)
zip_at R (x ∷ xs) (b ∷ ys) (suc k) y z e = zip_at R xs ys k y z.1 e

pub zip_from : {A B : Type 0} (R : A → B → Type 0) (xs : List A) (ys : List B) (k : ℕ) (x : A) → AllZip R xs ys → slice_get xs k ≡ Some x → (y : B) × R x y
zip_from R [] ys k x z e = absurd (cc)
zip_from R (a ∷ xs) [] k x z e = absurd z
zip_from R (a ∷ xs) (y ∷ ys) zero x z e = (y, subst (λ q. R q y) (same_Some a x e) z.0)
zip_from R (a ∷ xs) (y ∷ ys) (suc k) x z e = zip_from R xs ys k x z.1 e

-- ---- in reverse

all_append : {A : Type 0} (P : A → Type 0) (xs ys : List A) → AllByRecursion P xs → AllByRecursion P ys → AllByRecursion P (xs ++ ys)
all_append P [] ys p q = q
all_append P (x ∷ xs) ys p q = (p.0, all_append P xs ys p.1 q)

pub all_reverse : {A : Type 0} (P : A → Type 0) (xs : List A) → AllByRecursion P xs → AllByRecursion P (reverse xs)
all_reverse P [] p = p
all_reverse P (x ∷ xs) p = subst (AllByRecursion P) (sym (reverse-append (x ∷ []) xs)) (all_append P (reverse xs) (x ∷ []) (all_reverse P xs p.1) (p.0, tt))
