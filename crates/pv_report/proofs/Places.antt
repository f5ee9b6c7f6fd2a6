-- Elements of lists by their places, and what holds of each.
use Rattle.std.proofs.Common.{◌≡◌, ℕ, zero, suc, ◌<◌, List, [], ◌∷◌, length, get_or, Option, Some, refl, sym, ap, subst, ◌∙◌, arith}
use Rattle.std.specs.Prelude.{slice_get}
use Rattle.std.proofs.lemmas.Option.{slice_get-get_or}
use Rattle.std.specs.List.{AllByRecursion, Contains}
use Rattle.pv_base.specs.Stored.{AreBytes}
use Rattle.pv_pool.proofs.Cited.{IsBytes}

pub all_here : {A : Type 0} (P : A → Type 0) (xs : List A) (i : ℕ) (x : A) → AllByRecursion P xs → slice_get xs i ≡ Some x → P x
all_here P [] i x all at = absurd (cc at)
all_here P (y ∷ xs) zero x all at = let same : y ≡ x = cc at in subst P same all.0
all_here P (y ∷ xs) (suc i) x all at = all_here P xs i x all.1 at

pub all_at : {A : Type 0} (P : A → Type 0) (xs : List A) (x : A) → AllByRecursion P xs → Contains xs x → P x
all_at {A = A} P xs x all (i, lt, is) = subst P is (go xs i all lt)
  where
    go : (ys : List A) (k : ℕ) → AllByRecursion P ys → k < length ys → P (get_or ys k x)
    go [] k all lt = absurd (omega (arith, lt))
    go (y ∷ ys) zero all lt = all.0
    go (y ∷ ys) (suc k) all lt = go ys k all.1 (omega (arith, lt))

pub by_index : (bytes : List ℕ) → AreBytes bytes → IsBytes bytes
by_index [] all i = omega arith
by_index (b ∷ bytes) all zero = all.0
by_index (b ∷ bytes) all (suc i) = by_index bytes all.1 i

pub contains_here : {A : Type 0} (xs : List A) (i : ℕ) (x : A) → slice_get xs i ≡ Some x → Contains xs x
contains_here [] i x at = absurd (cc at)
contains_here (y ∷ xs) zero x at = (0, omega arith, cc at)
contains_here (y ∷ xs) (suc i) x at = let c = contains_here xs i x at in (suc c.0, omega (arith, c.1), c.2)

pub place_of : {A : Type 0} (xs : List A) (x : A) → Contains xs x → (i : ℕ) × (slice_get xs i ≡ Some x)
place_of {A = A} xs x (i, lt, is) = (i, go xs i lt is)
  where
    go : (ys : List A) (k : ℕ) → k < length ys → get_or ys k x ≡ x → slice_get ys k ≡ Some x
    go [] k lt is = absurd (omega (arith, lt))
    go (y ∷ ys) zero lt is = cc is
    go (y ∷ ys) (suc k) lt is = go ys k (omega (arith, lt)) is

-- the element that a loop is at
pub here_again : {A : Type 0} (xs : List A) (i : ℕ) (x : A) → i < length xs → x ≡ get_or xs i x → slice_get xs i ≡ Some x
here_again {A = A} xs i x lt is = slice_get-get_or xs i x lt ∙ ap (λ (y : A). Some y) (sym is)

pub slice_at : {A : Type 0} (xs : List A) (i : ℕ) → i < length xs → (x : A) × (slice_get xs i ≡ Some x)
slice_at [] i lt = absurd (omega (arith, lt))
slice_at (x ∷ xs) zero lt = (x, refl)
slice_at (x ∷ xs) (suc i) lt = slice_at xs i (omega (arith, lt))

pub slice_once : {A : Type 0} (xs : List A) (i : ℕ) (x y : A) → slice_get xs i ≡ Some x → slice_get xs i ≡ Some y → x ≡ y
slice_once {A = A} xs i x y p q = let same : ◌≡◌ {A = Option A} (Some x) (Some y) = sym p ∙ q in cc same
