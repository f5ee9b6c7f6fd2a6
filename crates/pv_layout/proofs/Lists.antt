-- Lists that grow by one, and pairs of lists.
use Rattle.std.proofs.Common.{◌≡◌, ℕ, zero, suc, ◌+◌, ◌<◌, List, [], ◌∷◌, ◌++◌, length, map, take, get_or, Some, slice_get, ◌⊎◌, inl, inr, ⊎_elim, refl, sym, ap, ◌∙◌, subst, arith}
use Rattle.pv_layout.proofs.Words.{AllZip, AllByRecursion, take_more, some_of}

pub push_cases : {A : Type 0} → (xs : List A) (x y : A) (n : ℕ) → slice_get (xs ++ x ∷ []) n ≡ Some y → (slice_get xs n ≡ Some y) ⊎ ((n ≡ length xs) × (x ≡ y))
push_cases [] x y zero e = inr (refl, cc)
push_cases [] x y (suc n) e = absurd (cc)
push_cases (z ∷ xs) x y zero e = inl e
push_cases (z ∷ xs) x y (suc n) e = ⊎_elim (λ p. inl p) (λ q. inr (ap suc q.0, q.1)) (push_cases xs x y n e)

-- what holds of each element, of one more
pub each_push : {A : Type 0} → (P Q : ℕ → A → Type 0) (xs : List A) (x : A) (n : ℕ) → length xs ≡ n → ((i : ℕ) (a : A) → P i a → Q i a) → ((i : ℕ) (a : A) → slice_get xs i ≡ Some a → P i a) → Q n x → (i : ℕ) (a : A) → slice_get (xs ++ x ∷ []) i ≡ Some a → Q i a
each_push {A} P Q xs x n count stay each one i a e = ⊎_elim
    (λ old. stay i a (each i a old))
    (λ last. let at : n ≡ i = sym count ∙ sym last.0 in let R : ℕ → Type 0 = λ k. Q k a in let S : A → Type 0 = λ y. Q n y in subst R at (subst S last.1 one))
    (push_cases xs x a i e)

-- lists of one length, element by element
pub zip_each : {A B : Type 0} → (R : A → B → Type 0) (xs : List A) (ys : List B) → length xs ≡ length ys → ((i : ℕ) (x : A) → slice_get xs i ≡ Some x → (y : B) × (slice_get ys i ≡ Some y) × R x y) → AllZip R xs ys
zip_each R [] [] l each = tt
zip_each R [] (y ∷ ys) l each = absurd (omega arith)
zip_each R (x ∷ xs) [] l each = absurd (omega arith)
zip_each {A} {B} R (x ∷ xs) (y ∷ ys) l each =
    let first = each 0 x refl in
    let same : first.0 ≡ y = (let z : Some first.0 ≡ Some y = sym first.1 in cc) in
    let Q : B → Type 0 = λ z. R x z in
    (subst Q same first.2, zip_each R xs ys (omega arith) (λ i a e. each (suc i) a e))

pub zip_first : {A B : Type 0} → (R : A → B → Type 0) (xs : List A) (ys : List B) (i : ℕ) (x : A) → AllZip R xs ys → slice_get xs i ≡ Some x → (y : B) × (slice_get ys i ≡ Some y) × R x y
zip_first R [] ys i x all e = absurd (cc)
zip_first R (z ∷ xs) [] i x all e = absurd all
zip_first {A} {B} R (z ∷ xs) (y ∷ ys) zero x all e = let Q : A → Type 0 = λ w. R w y in (y, refl, subst Q (some_of z x e) all.0)
zip_first R (z ∷ xs) (y ∷ ys) (suc i) x all e = zip_first R xs ys i x all.1 e

pub zip_long : {A B : Type 0} → (R : A → B → Type 0) (xs : List A) (ys : List B) → AllZip R xs ys → length xs ≡ length ys
zip_long R [] [] all = refl
zip_long R [] (y ∷ ys) all = absurd all
zip_long R (x ∷ xs) [] all = absurd all
zip_long R (x ∷ xs) (y ∷ ys) all = ap suc (zip_long R xs ys all.1)

pub zip_at : {A B : Type 0} → (R : A → B → Type 0) (xs : List A) (ys : List B) (i : ℕ) (y : B) → AllZip R xs ys → slice_get ys i ≡ Some y → (x : A) × (slice_get xs i ≡ Some x) × R x y
zip_at R xs [] i y all e = absurd (cc)
zip_at R [] (z ∷ ys) i y all e = absurd all
zip_at {A} {B} R (x ∷ xs) (z ∷ ys) zero y all e = let Q : B → Type 0 = λ w. R x w in (x, refl, subst Q (some_of z y e) all.0)
zip_at R (x ∷ xs) (z ∷ ys) (suc i) y all e = zip_at R xs ys i y all.1 e

pub zip_map : {A B : Type 0} → (R S : A → B → Type 0) → ((a : A) (b : B) → R a b → S a b) → (xs : List A) (ys : List B) → AllZip R xs ys → AllZip S xs ys
zip_map R S f [] [] all = tt
zip_map R S f [] (y ∷ ys) all = absurd all
zip_map R S f (x ∷ xs) [] all = absurd all
zip_map R S f (x ∷ xs) (y ∷ ys) all = (f x y all.0, zip_map R S f xs ys all.1)

pub all_map : {A : Type 0} → (P Q : A → Type 0) → ((a : A) → P a → Q a) → (xs : List A) → AllByRecursion P xs → AllByRecursion Q xs
all_map P Q f [] all = tt
all_map P Q f (x ∷ xs) all = (f x all.0, all_map P Q f xs all.1)

map_last : {A B : Type 0} → (f : A → B) (xs : List A) (x : A) → map f (xs ++ x ∷ []) ≡ map f xs ++ f x ∷ []
map_last f [] x = refl
map_last f (y ∷ xs) x = ap (λ zs. f y ∷ zs) (map_last f xs x)

-- one more of a mapped list
pub map_more : {A B : Type 0} → (f : A → B) (xs : List A) (n : ℕ) (d : A) → n < length xs → map f (take (n + 1) xs) ≡ map f (take n xs) ++ f (get_or xs n d) ∷ []
map_more f xs n d low = ap (map f) (take_more xs n d low) ∙ map_last f (take n xs) (get_or xs n d)
