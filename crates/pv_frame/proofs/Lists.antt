-- Lists, as loops find them: what holds of the elements so far, and of those that are left; and elements by their places.
use Rattle.std.proofs.Common.{◌≡◌, ◌≢◌, ℕ, zero, suc, ◌+◌, ◌≤◌, ◌<◌, List, [], ◌∷◌, ◌++◌, length, get_or, set, drop, Some, refl, sym, subst, inl, inr, arith, ◌⊎◌, slice_get, Contains}
use Rattle.pv_frame.proofs.Words.{cases_eq, AllByRecursion, drop_more, drop_all}

-- ---- what holds of each element

-- the elements that are left decide of all
pub record AllSoFar {A : Type 0} (P : A → Type 0) (xs : List A) (i : ℕ) : Type 0 where
  pub all : AllByRecursion P (drop i xs) → AllByRecursion P xs
  pub left : AllByRecursion P xs → AllByRecursion P (drop i xs)

pub all_starts : {A : Type 0} (P : A → Type 0) (xs : List A) → AllSoFar P xs 0
all_starts P xs = record { all = λ h. h; left = λ h. h }

pub all_on : {A : Type 0} (P : A → Type 0) (xs : List A) (i : ℕ) (d : A) → i < length xs → P (get_or xs i d) → AllSoFar P xs i → AllSoFar P xs (i + 1)
all_on {A = A} P xs i d lt p s = record {
  all = λ h. s.all (subst (λ (l : List A). AllByRecursion P l) (sym (drop_more xs i d lt)) (p, h));
  left = λ h. (subst (λ (l : List A). AllByRecursion P l) (drop_more xs i d lt) (s.left h)).1;
}

pub all_ends : {A : Type 0} (P : A → Type 0) (xs : List A) (i : ℕ) (d : A) → i < length xs → (P (get_or xs i d) → ⊥) → AllSoFar P xs i → AllByRecursion P xs → ⊥
all_ends {A = A} P xs i d lt bad s h = bad (subst (λ (l : List A). AllByRecursion P l) (drop_more xs i d lt) (s.left h)).0

pub all_done : {A : Type 0} (P : A → Type 0) (xs : List A) (i : ℕ) → length xs ≤ i → AllSoFar P xs i → AllByRecursion P xs
all_done {A = A} P xs i le s = s.all (subst (λ (l : List A). AllByRecursion P l) (sym (drop_all i xs le)) tt)

pub all_parts : {A : Type 0} (P : A → Type 0) (xs : List A) (x : A) (ys : List A) → AllByRecursion P (xs ++ x ∷ ys) → AllByRecursion P xs × P x
all_parts P [] x ys all = (tt, all.0)
all_parts P (y ∷ xs) x ys all = let rest = all_parts P xs x ys all.1 in ((all.0, rest.0), rest.1)

-- ---- places

pub equal_or_not : (k n : ℕ) → (k ≡ n) ⊎ (k ≢ n)
equal_or_not k n = cases_eq k n

pub get_set : {A : Type 0} (xs : List A) (j : ℕ) (x : A) → j < length xs → slice_get (set xs j x) j ≡ Some x
get_set [] j x h = absurd (omega arith)
get_set (y ∷ xs) zero x h = refl
get_set (y ∷ xs) (suc j) x h = get_set xs j x (omega arith)

pub get_set_other : {A : Type 0} (xs : List A) (j k : ℕ) (x : A) → k ≢ j → slice_get (set xs j x) k ≡ slice_get xs k
get_set_other [] j k x h = refl
get_set_other (y ∷ xs) zero zero x h = absurd (h refl)
get_set_other (y ∷ xs) zero (suc k) x h = refl
get_set_other (y ∷ xs) (suc j) zero x h = refl
get_set_other (y ∷ xs) (suc j) (suc k) x h = get_set_other xs j k x (λ e. h (omega arith))

pub contains_first : {A : Type 0} (x : A) (xs : List A) → Contains (x ∷ xs) x
contains_first x xs = (0, omega arith, refl)

pub contains_more : {A : Type 0} (y x : A) (xs : List A) → Contains xs x → Contains (y ∷ xs) x
contains_more y x xs (i, h, is) = (suc i, omega arith, is)

pub contains_cases : {A : Type 0} (y x : A) (xs : List A) → Contains (y ∷ xs) x → (y ≡ x) ⊎ Contains xs x
contains_cases y x xs (zero, h, is) = inl is
contains_cases y x xs (suc i, h, is) = inr (i, omega arith, is)

pub contains_none : {A : Type 0} (x : A) → Contains [] x → ⊥
contains_none x (i, h, is) = omega arith
