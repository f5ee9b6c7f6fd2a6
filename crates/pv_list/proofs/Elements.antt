-- Elements of lists by their places, what holds of each, and pairs of lists by their places.
use Rattle.std.specs.Prelude.{◌≡◌, ◌⊎◌, ℕ, zero, suc, ◌<◌, List, [], ◌∷◌, ◌++◌, length, Some, slice_get, refl}
use Rattle.std.specs.List.{AllByRecursion, AllZip, Contains}
use Rattle.std.proofs.Common.{arith, get_or, inl, inr, ap, sym, subst, ◌∙◌}
use Rattle.std.proofs.lemmas.Option.{slice_get-get_or, slice_get_within, get_or_from_slice_get, same_Some, none-some}

-- ---- places

pub found : {A : Type 0} → (xs : List A) (n : ℕ) → n < length xs → (x : A) × (slice_get xs n ≡ Some x)
found [] n h = absurd (omega arith)
found (x ∷ xs) n h = (get_or (x ∷ xs) n x, slice_get-get_or (x ∷ xs) n x h)

-- what a list contains has a place, and what has one is contained
pub place_of : {A : Type 0} → (xs : List A) (x : A) → Contains xs x → (n : ℕ) × (slice_get xs n ≡ Some x)
place_of xs x there = (there.0, slice_get-get_or xs there.0 x there.1 ∙ ap Some there.2)

pub contains_at : {A : Type 0} → (xs : List A) (x : A) (n : ℕ) → slice_get xs n ≡ Some x → Contains xs x
contains_at xs x n at = (n, slice_get_within xs n x at, get_or_from_slice_get xs n x x at)

-- lists with the same at each place are one
pub same_lists : {A : Type 0} → (xs ys : List A) → ((n : ℕ) → slice_get xs n ≡ slice_get ys n) → xs ≡ ys
same_lists [] [] h = refl
same_lists [] (y ∷ ys) h = absurd (none-some y (h 0))
same_lists (x ∷ xs) [] h = absurd (none-some x (sym (h 0)))
same_lists (x ∷ xs) (y ∷ ys) h =
    let head = same_Some x y (h 0) in
    let tail = same_lists xs ys (λ n. h (suc n)) in
    cc (head, tail)

-- ---- one element more

-- it leaves the others
pub get_front : {A : Type 0} → (xs : List A) (x : A) (n : ℕ) → n < length xs → slice_get (xs ++ x ∷ []) n ≡ slice_get xs n
get_front [] x n h = absurd (omega arith)
get_front (y ∷ xs) x zero h = refl
get_front (y ∷ xs) x (suc n) h = get_front xs x n (omega arith)

pub get_last : {A : Type 0} → (xs : List A) (x : A) → slice_get (xs ++ x ∷ []) (length xs) ≡ Some x
get_last [] x = refl
get_last (y ∷ xs) x = get_last xs x

-- what such a list has is an old element, or the new one at the end
pub push_cases : {A : Type 0} → (xs : List A) (x y : A) (n : ℕ) → slice_get (xs ++ x ∷ []) n ≡ Some y → (slice_get xs n ≡ Some y) ⊎ ((n ≡ length xs) × (x ≡ y))
push_cases [] x y zero e = inr (refl, same_Some x y e)
push_cases [] x y (suc n) e = absurd (cc)
push_cases (z ∷ xs) x y zero e = inl e
push_cases (z ∷ xs) x y (suc n) e = elim (push_cases xs x y n e) [ inl p ↦ inl p | inr q ↦ inr (omega (arith, q.0), q.1) ]

-- ---- what holds of each element

pub all_here : {A : Type 0} → (P : A → Type 0) (xs : List A) (n : ℕ) (x : A) → AllByRecursion P xs → slice_get xs n ≡ Some x → P x
all_here P [] n x all at = absurd (none-some x at)
all_here P (y ∷ xs) zero x all at = subst P (same_Some y x at) all.0
all_here P (y ∷ xs) (suc n) x all at = all_here P xs n x all.1 at

pub all_push : {A : Type 0} → (P : A → Type 0) (xs : List A) (x : A) → AllByRecursion P xs → P x → AllByRecursion P (xs ++ x ∷ [])
all_push P [] x all p = (p, tt)
all_push P (y ∷ xs) x all p = (all.0, all_push P xs x all.1 p)

pub all_map : {A : Type 0} → (P Q : A → Type 0) → ((x : A) → P x → Q x) → (xs : List A) → AllByRecursion P xs → AllByRecursion Q xs
all_map P Q f [] all = tt
all_map P Q f (x ∷ xs) all = (f x all.0, all_map P Q f xs all.1)

-- ---- pairs of lists

-- the partner of an element
pub partner : {A B : Type 0} → (R : A → B → Type 0) (xs : List A) (ys : List B) (n : ℕ) (x : A) → AllZip R xs ys → slice_get xs n ≡ Some x → (y : B) × (slice_get ys n ≡ Some y) × R x y
partner R [] ys n x all at = absurd (none-some x at)
partner R (z ∷ xs) [] n x all at = absurd all
partner R (z ∷ xs) (y ∷ ys) zero x all at = (y, refl, subst (λ w. R w y) (same_Some z x at) all.0)
partner R (z ∷ xs) (y ∷ ys) (suc n) x all at = partner R xs ys n x all.1 at
