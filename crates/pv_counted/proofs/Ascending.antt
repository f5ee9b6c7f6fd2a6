-- Ascending lists: where one is within another that isn't longer, they hold the same.
use Rattle.std.specs.Prelude.{◌≡◌, ◌⊎◌, ℕ, zero, suc, ◌<◌, ◌≤◌, List, [], ◌∷◌, length, Some, slice_get, refl}
use Rattle.std.proofs.Common.{inl, inr, sym, arith, ◌∙◌, subst}
use Rattle.pv_graph.specs.Walks.{In}
use Rattle.pv_counted.specs.Counted.{IsAscending}

-- what is in a list has a place
pub place_in : {A : Type 0} → (xs : List A) (x : A) → In xs x → (i : ℕ) × (slice_get xs i ≡ Some x)
place_in [] x m = absurd m
place_in (y ∷ xs) x (inl e) = (0, let z : Some y ≡ Some x = cc in z)
place_in (y ∷ xs) x (inr m) = let r = place_in xs x m in (suc r.0, r.1)

pub in_place : {A : Type 0} → (xs : List A) (x : A) (i : ℕ) → slice_get xs i ≡ Some x → In xs x
in_place [] x i e = absurd (cc)
in_place (y ∷ xs) x zero e = inl (cc)
in_place (y ∷ xs) x (suc i) e = inr (in_place xs x i e)

rest : (x : ℕ) (xs : List ℕ) → IsAscending (x ∷ xs) → IsAscending xs
rest x xs up i j m n lt e f = up (suc i) (suc j) m n (omega (arith, lt)) e f

first_low : (x : ℕ) (xs : List ℕ) → IsAscending (x ∷ xs) → (n : ℕ) → In xs n → x < n
first_low x xs up n m = let r = place_in xs n m in up 0 (suc r.0) x n (omega arith) refl r.1

abbrev Within : List ℕ → List ℕ → Type 0
Within xs ys = (n : ℕ) → In xs n → In ys n

-- equal first numbers may go
both_rest : (x y : ℕ) (xs ys : List ℕ) → y ≡ x → IsAscending (x ∷ xs) → Within (x ∷ xs) (y ∷ ys) → Within xs ys
both_rest x y xs ys e up within n m = elim (within n (inr m)) [ inl same ↦ absurd (let lt = first_low x xs up n m in omega (arith, e, same, lt)) | inr there ↦ there ]

-- a first number that the other list doesn't have first
one_rest : (x y : ℕ) (xs ys : List ℕ) → In ys x → IsAscending (x ∷ xs) → IsAscending (y ∷ ys) → Within (x ∷ xs) (y ∷ ys) → Within (x ∷ xs) ys
one_rest x y xs ys at up up' within n (inl e) = subst (λ (k : ℕ). In ys k) e at
one_rest x y xs ys at up up' within n (inr m) =
    elim (within n (inr m)) [ inl same ↦ absurd (let lt = first_low x xs up n m in let low = first_low y ys up' x at in omega (arith, same, lt, low)) | inr there ↦ there ]

no_longer : (ys xs : List ℕ) → IsAscending xs → IsAscending ys → Within xs ys → length xs ≤ length ys
no_longer ys [] up up' within = omega arith
no_longer [] (x ∷ xs) up up' within = absurd (within x (inl refl))
no_longer (y ∷ ys) (x ∷ xs) up up' within = by (within x (inl refl)) (no_longer ys)
  where
    by : (y ≡ x) ⊎ In ys x → ((zs : List ℕ) → IsAscending zs → IsAscending ys → Within zs ys → length zs ≤ length ys) → length (x ∷ xs) ≤ length (y ∷ ys)
    by (inl e) again = let z = again xs (rest x xs up) (rest y ys up') (both_rest x y xs ys e up within) in omega (arith, z)
    by (inr at) again = let z = again (x ∷ xs) up (rest y ys up') (one_rest x y xs ys at up up' within) in omega (arith, z)

pub all_within : (ys xs : List ℕ) → IsAscending xs → IsAscending ys → Within xs ys → length ys ≤ length xs → Within ys xs
all_within [] xs up up' within few n m = absurd m
all_within (y ∷ ys) [] up up' within few n m = absurd (omega (arith, few))
all_within (y ∷ ys) (x ∷ xs) up up' within few n m = by (within x (inl refl)) m (all_within ys xs)
  where
    by : (y ≡ x) ⊎ In ys x → In (y ∷ ys) n → (IsAscending xs → IsAscending ys → Within xs ys → length ys ≤ length xs → Within ys xs) → In (x ∷ xs) n
    by (inl e) (inl f) again = inl (sym e ∙ f)
    by (inl e) (inr f) again = inr (again (rest x xs up) (rest y ys up') (both_rest x y xs ys e up within) (omega (arith, few)) n f)
    by (inr at) f again = absurd (let z = no_longer ys (x ∷ xs) up (rest y ys up') (one_rest x y xs ys at up up' within) in omega (arith, z, few))
