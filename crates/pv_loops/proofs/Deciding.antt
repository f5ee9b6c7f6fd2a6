-- What is decided by going over the numbers below a bound, and how many numbers have a property.
use Rattle.std.proofs.Common.{◌≡◌, ◌≢◌, ℕ, zero, suc, ◌<◌, ◌≤◌, ◌+◌, List, [], ◌∷◌, ◌++◌, length, refl, sym, ap, subst, arith, ◌⊎◌, inl, inr, ⊎_elim}
use Rattle.pv_loops.proofs.Words.{cases_eq, cases_lt, Contains-append_left, Contains-append_right, Contains-append_cases, Contains}

abbrev pub Decided : Type 0 → Type 0
Decided P = P ⊎ (P → ⊥)

pub both : (P Q : Type 0) → Decided P → Decided Q → Decided (P × Q)
both P Q (inl p) (inl q) = inl (p, q)
both P Q (inl p) (inr q) = inr (λ r. q r.1)
both P Q (inr p) d = inr (λ r. p r.0)

pub all_three : (P Q R : Type 0) → Decided P → Decided Q → Decided R → Decided (P × Q × R)
all_three P Q R (inl p) (inl q) (inl r) = inl (p, q, r)
all_three P Q R (inl p) (inl q) (inr r) = inr (λ h. r h.2)
all_three P Q R (inl p) (inr q) d = inr (λ h. q h.1)
all_three P Q R (inr p) e d = inr (λ h. p h.0)

pub all_four : (P Q R S : Type 0) → Decided P → Decided Q → Decided R → Decided S → Decided (P × Q × R × S)
all_four P Q R S (inl p) (inl q) (inl r) (inl s) = inl (p, q, r, s)
all_four P Q R S (inl p) (inl q) (inl r) (inr s) = inr (λ h. s h.3)
all_four P Q R S (inl p) (inl q) (inr r) d = inr (λ h. r h.2)
all_four P Q R S (inl p) (inr q) e d = inr (λ h. q h.1)
all_four P Q R S (inr p) f e d = inr (λ h. p h.0)

pub either : (P Q : Type 0) → Decided P → Decided Q → Decided (P ⊎ Q)
either P Q (inl p) d = inl (inl p)
either P Q (inr p) (inl q) = inl (inr q)
either P Q (inr p) (inr q) = inr (λ r. ⊎_elim p q r)

pub implies : (P Q : Type 0) → Decided P → Decided Q → Decided (P → Q)
implies P Q (inr p) d = inl (λ r. absurd (p r))
implies P Q (inl p) (inl q) = inl (λ _. q)
implies P Q (inl p) (inr q) = inr (λ f. q (f p))

pub negated : (P : Type 0) → Decided P → Decided (P → ⊥)
negated P (inl p) = inr (λ f. f p)
negated P (inr p) = inl p

pub differ : (a b : ℕ) → Decided (a ≢ b)
differ a b = negated (a ≡ b) (cases_eq a b)

-- whether a number below n has the property
pub some_below : (P : ℕ → Type 0) → ((a : ℕ) → Decided (P a)) → (n : ℕ) → Decided ((a : ℕ) × (a < n) × P a)
some_below P d zero = inr (λ r. let lt = r.1 in omega (arith, lt))
some_below P d (suc n) = go (d n) (some_below P d n)
  where
    go : Decided (P n) → Decided ((a : ℕ) × (a < n) × P a) → Decided ((a : ℕ) × (a < suc n) × P a)
    go (inl p) e = inl (n, omega arith, p)
    go (inr p) (inl q) = inl (q.0, (let lt = q.1 in omega (arith, lt)), q.2)
    go (inr p) (inr q) = inr (λ r. ⊎_elim
        (λ (e : r.0 ≡ n). p (subst P e r.2))
        (λ (ne : r.0 ≢ n). q (r.0, (let lt = r.1 in omega (arith, lt)), r.2))
        (cases_eq r.0 n))

-- whether all have it
pub all_below : (P : ℕ → Type 0) → ((a : ℕ) → Decided (P a)) → (n : ℕ) → Decided ((a : ℕ) → a < n → P a)
all_below P d n = go (some_below (λ a. P a → ⊥) (λ a. negated (P a) (d a)) n)
  where
    go : Decided ((a : ℕ) × (a < n) × (P a → ⊥)) → Decided ((a : ℕ) → a < n → P a)
    go (inl q) = inr (λ f. q.2 (f q.0 q.1))
    go (inr q) = inl (λ a lt. ⊎_elim (λ (p : P a). p) (λ (p : P a → ⊥). absurd (q (a, lt, p))) (d a))

pub contains_decided : (xs : List ℕ) (x : ℕ) → Decided (Contains xs x)
contains_decided xs x = some_below _ (λ i. cases_eq _ _) (length xs)

-- how many numbers below n have the property
abbrev one : (P : Type 0) → Decided P → ℕ
one P (inl p) = 1
one P (inr p) = 0

abbrev pub count : (P : ℕ → Type 0) → ((a : ℕ) → Decided (P a)) → ℕ → ℕ
count P d zero = 0
count P d (suc n) = one (P n) (d n) + count P d n

one_le : (P Q : Type 0) (d : Decided P) (e : Decided Q) → (Q → P) → one Q e ≤ one P d
one_le P Q d (inr q) f = omega arith
one_le P Q (inl p) (inl q) f = omega arith
one_le P Q (inr p) (inl q) f = absurd (p (f q))

one_less : (P Q : Type 0) (d : Decided P) (e : Decided Q) → P → (Q → ⊥) → one Q e < one P d
one_less P Q (inl p) (inr q) h f = omega arith
one_less P Q d (inl q) h f = absurd (f q)
one_less P Q (inr p) e h f = absurd (p h)

one_most : (P : Type 0) (d : Decided P) → one P d ≤ 1
one_most P (inl p) = omega arith
one_most P (inr p) = omega arith

pub count_le : (P Q : ℕ → Type 0) (d : (a : ℕ) → Decided (P a)) (e : (a : ℕ) → Decided (Q a)) (n : ℕ) → ((a : ℕ) → a < n → Q a → P a) → count Q e n ≤ count P d n
count_le P Q d e zero f = omega arith
count_le P Q d e (suc n) f =
    let i = count_le P Q d e n (λ a lt q. f a (omega arith) q) in
    let o = one_le (P n) (Q n) (d n) (e n) (λ q. f n (omega arith) q) in
    omega (arith, i, o)

-- one number fewer
pub count_less : (P Q : ℕ → Type 0) (d : (a : ℕ) → Decided (P a)) (e : (a : ℕ) → Decided (Q a)) (n : ℕ) → ((a : ℕ) → Q a → P a) → (k : ℕ) → k < n → P k → (Q k → ⊥) → count Q e n < count P d n
count_less P Q d e zero f k lt p q = absurd (omega arith)
count_less P Q d e (suc n) f k lt p q = ⊎_elim
    (λ (at : k ≡ n).
    let i = count_le P Q d e n (λ a _ r. f a r) in
    let o = one_less (P n) (Q n) (d n) (e n) (subst P at p) (λ r. q (subst Q (sym at) r)) in
    omega (arith, i, o))
    (λ (ne : k ≢ n).
    let i = count_less P Q d e n f k (omega arith) p q in
    let o = one_le (P n) (Q n) (d n) (e n) (λ r. f n r) in
    omega (arith, i, o))
    (cases_eq k n)

-- at most one number more
pub count_more : (P Q : ℕ → Type 0) (d : (a : ℕ) → Decided (P a)) (e : (a : ℕ) → Decided (Q a)) (n k : ℕ) → ((a : ℕ) → Q a → a ≢ k → P a) → count Q e n ≤ count P d n + 1
count_more P Q d e zero k f = omega arith
count_more P Q d e (suc n) k f = ⊎_elim
    (λ (at : k ≡ n).
    let i = count_le P Q d e n (λ a lt q. f a q (omega arith)) in
    let o = one_most (Q n) (e n) in
    omega (arith, i, o))
    (λ (ne : k ≢ n).
    let i = count_more P Q d e n k f in
    let o = one_le (P n) (Q n) (d n) (e n) (λ q. f n q (λ w. ne (sym w))) in
    omega (arith, i, o))
    (cases_eq k n)

pub count_most : (P : ℕ → Type 0) (d : (a : ℕ) → Decided (P a)) (n : ℕ) → count P d n ≤ n
count_most P d zero = omega arith
count_most P d (suc n) = let i = count_most P d n in let o = one_most (P n) (d n) in omega (arith, i, o)

-- of the numbers below n with the property one with the greatest value
pub greatest : (f : ℕ → ℕ) (P : ℕ → Type 0) → ((a : ℕ) → Decided (P a)) → (n : ℕ) → ((z : ℕ) × (z < n) × P z × ((a : ℕ) → a < n → P a → f a ≤ f z)) ⊎ ((a : ℕ) → a < n → P a → ⊥)
greatest f P d zero = inr (λ a lt. absurd (omega arith))
greatest f P d (suc n) = go (d n) (greatest f P d n)
  where
    go : Decided (P n) → ((z : ℕ) × (z < n) × P z × ((a : ℕ) → a < n → P a → f a ≤ f z)) ⊎ ((a : ℕ) → a < n → P a → ⊥) → ((z : ℕ) × (z < suc n) × P z × ((a : ℕ) → a < suc n → P a → f a ≤ f z)) ⊎ ((a : ℕ) → a < suc n → P a → ⊥)
    go (inl p) (inl q) = ⊎_elim
        (λ (up : f q.0 < f n). inl (
          n,
          omega arith,
          p,
          λ a lt r. ⊎_elim
              (λ (e : a ≡ n). let w = ap f e in omega (arith, w))
              (λ (ne : a ≢ n). let le = q.3 a (omega arith) r in omega (arith, le, up))
              (cases_eq a n),
        ))
        (λ (le : f n ≤ f q.0). inl (
          q.0,
          (let lt = q.1 in omega (arith, lt)),
          q.2,
          λ a lt r. ⊎_elim
              (λ (e : a ≡ n). let w = ap f e in omega (arith, w, le))
              (λ (ne : a ≢ n). q.3 a (omega arith) r)
              (cases_eq a n),
        ))
        (cases_lt (f q.0) (f n))
    go (inl p) (inr q) = inl (
      n,
      omega arith,
      p,
      λ a lt r. ⊎_elim
          (λ (e : a ≡ n). let w = ap f e in omega (arith, w))
          (λ (ne : a ≢ n). absurd (q a (omega arith) r))
          (cases_eq a n),
    )
    go (inr p) (inl q) = inl (
      q.0,
      (let lt = q.1 in omega (arith, lt)),
      q.2,
      λ a lt r. ⊎_elim
          (λ (e : a ≡ n). absurd (p (subst P e r)))
          (λ (ne : a ≢ n). q.3 a (omega arith) r)
          (cases_eq a n),
    )
    go (inr p) (inr q) = inr (λ a lt r. ⊎_elim
        (λ (e : a ≡ n). p (subst P e r))
        (λ (ne : a ≢ n). q a (omega arith) r)
        (cases_eq a n))

-- the numbers below n with the property
one_list : (P : Type 0) → Decided P → ℕ → List ℕ
one_list P (inl p) n = n ∷ []
one_list P (inr p) n = []

pub those : (P : ℕ → Type 0) → ((a : ℕ) → Decided (P a)) → ℕ → List ℕ
those P d zero = []
those P d (suc n) = those P d n ++ one_list (P n) (d n) n

one_list_has : (P : Type 0) (d : Decided P) (n : ℕ) → P → Contains (one_list P d n) n
unfolding one_list
one_list_has P (inl p) n h = (0, omega arith, refl)
one_list_has P (inr p) n h = absurd (p h)

one_list_only : (P : Type 0) (d : Decided P) (n a : ℕ) → Contains (one_list P d n) a → (a ≡ n) × P
unfolding one_list
one_list_only P (inl p) n a (zero, lt, e) = (sym e, p)
one_list_only P (inl p) n a (suc k, lt, e) = absurd (omega arith)
one_list_only P (inr p) n a (k, lt, e) = absurd (omega arith)

pub those_has : (P : ℕ → Type 0) (d : (a : ℕ) → Decided (P a)) (n a : ℕ) → a < n → P a → Contains (those P d n) a
unfolding those
those_has P d zero a lt p = absurd (omega arith)
those_has P d (suc n) a lt p = ⊎_elim
    (λ (e : a ≡ n). Contains-append_right (those P d n) (one_list (P n) (d n) n) a (subst (λ v. Contains (one_list (P n) (d n) n) v) (sym e) (one_list_has (P n) (d n) n (subst P e p))))
    (λ (ne : a ≢ n). Contains-append_left (those P d n) (one_list (P n) (d n) n) a (those_has P d n a (omega arith) p))
    (cases_eq a n)

pub those_only : (P : ℕ → Type 0) (d : (a : ℕ) → Decided (P a)) (n a : ℕ) → Contains (those P d n) a → (a < n) × P a
unfolding those
those_only P d zero a (k, lt, e) = absurd (omega arith)
those_only P d (suc n) a c = ⊎_elim
    (λ (q : Contains (those P d n) a). let o = those_only P d n a q in ((let lt = o.0 in omega (arith, lt)), o.1))
    (λ (q : Contains (one_list (P n) (d n) n) a). let o = one_list_only (P n) (d n) n a q in ((let e = o.0 in omega (arith, e)), subst P (sym o.0) o.1))
    (Contains-append_cases (those P d n) (one_list (P n) (d n) n) a c)
