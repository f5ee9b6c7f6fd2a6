-- Whether something is reached by steps between finitely many places, decided by taking in one place after the other
-- (Warshall, "A theorem on Boolean matrices", Journal of the ACM 1962).
use Rattle.std.proofs.Common.{◌≡◌, ℕ, zero, suc, ◌<◌, List, [], ◌∷◌, ◌⊎◌, inl, inr, ⊎_elim, refl, sym, subst, arith}
use Rattle.pv_equations.proofs.Words.{In}

abbrev pub Decided : Type 0 → Type 0
Decided P = P ⊎ (P → ⊥)

pub number : (a b : ℕ) → Decided (a ≡ b)
number a b = grind arith

pub less : (a b : ℕ) → Decided (a < b)
less a b = grind arith

pub both : (P Q : Type 0) → Decided P → Decided Q → Decided (P × Q)
both P Q (inl p) (inl q) = inl (p, q)
both P Q (inl p) (inr n) = inr (λ z. n z.1)
both P Q (inr n) q = inr (λ z. n z.0)

pub either : (P Q : Type 0) → Decided P → Decided Q → Decided (P ⊎ Q)
either P Q (inl p) q = inl (inl p)
either P Q (inr n) (inl q) = inl (inr q)
either P Q (inr n) (inr m) = inr (λ z. ⊎_elim n m z)

pub equally : (P Q : Type 0) → (P → Q) → (Q → P) → Decided P → Decided Q
equally P Q to from (inl p) = inl (to p)
equally P Q to from (inr n) = inr (λ q. n (from q))

-- one of a list
pub one_of : (A : Type 0) (P : A → Type 0) → ((a : A) → Decided (P a)) → (as' : List A) → Decided ((a : A) × In as' a × P a)
one_of A P dec [] = inr (λ z. z.1)
one_of A P dec (x ∷ xs) = go (dec x) (one_of A P dec xs)
  where
    go : Decided (P x) → Decided ((a : A) × In xs a × P a) → Decided ((a : A) × In (x ∷ xs) a × P a)
    go (inl p) q = inl (x, inl refl, p)
    go (inr n) (inl q) = inl (q.0, inr q.1, q.2)
    go (inr n) (inr m) = inr (λ z. ⊎_elim (λ e. n (subst P (sym e) z.2)) (λ i. m (z.0, i, z.2)) z.1)

-- from a place a goal is reached by steps
pub data Reach (A : Type 0) (Step : A → A → Type 0) (Goal : A → Type 0) : A → Type 0 where
  there : (a : A) → Goal a → Reach A Step Goal a
  onward : (a b : A) → Step a b → Reach A Step Goal b → Reach A Step Goal a

module _ (A : Type 0) (Step : A → A → Type 0) (Goal : A → Type 0) where
  -- from a to c by steps, with places of the list alone between
  abbrev Path : List A → A → A → Type 0
  Path [] a c = Step a c
  Path (m ∷ ms) a c = Path ms a c ⊎ (Path ms a m × Path ms m c)

  path_dec : ((a c : A) → Decided (Step a c)) → (ms : List A) (a c : A) → Decided (Path ms a c)
  path_dec dec [] a c = dec a c
  path_dec dec (m ∷ ms) a c = either (Path ms a c) (Path ms a m × Path ms m c) (path_dec dec ms a c) (both (Path ms a m) (Path ms m c) (path_dec dec ms a m) (path_dec dec ms m c))

  lift : (ms : List A) (a c : A) → Step a c → Path ms a c
  lift [] a c s = s
  lift (m ∷ ms) a c s = inl (lift ms a c s)

  to_it : (m : A) (ms : List A) (a : A) → Path (m ∷ ms) a m → Path ms a m
  to_it m ms a (inl p) = p
  to_it m ms a (inr p) = p.0

  from_it : (m : A) (ms : List A) (a : A) → Path (m ∷ ms) m a → Path ms m a
  from_it m ms a (inl p) = p
  from_it m ms a (inr p) = p.1

  joined : (ms : List A) (a c d : A) → In ms c → Path ms a c → Path ms c d → Path ms a d
  joined [] a c d i p q = absurd i
  joined (m ∷ ms) a c d (inl e) p q = inr (to_it m ms a (subst (λ (c : A). Path (m ∷ ms) a c) (sym e) p), from_it m ms d (subst (λ (c : A). Path (m ∷ ms) c d) (sym e) q))
  joined (m ∷ ms) a c d (inr i) (inl p) (inl q) = inl (joined ms a c d i p q)
  joined (m ∷ ms) a c d (inr i) (inl p) (inr q) = inr (joined ms a c m i p q.0, q.1)
  joined (m ∷ ms) a c d (inr i) (inr p) (inl q) = inr (p.0, joined ms m c d i p.1 q)
  joined (m ∷ ms) a c d (inr i) (inr p) (inr q) = inr (p.0, q.1)

  sound : (ms : List A) (a c : A) → Path ms a c → Reach A Step Goal c → Reach A Step Goal a
  sound [] a c s r = onward a c s r
  sound (m ∷ ms) a c (inl p) r = sound ms a c p r
  sound (m ∷ ms) a c (inr p) r = sound ms a m p.0 (sound ms m c p.1 r)

  -- a goal at once, or at the end of a path
  abbrev Found : List A → A → Type 0
  Found ms a = Goal a ⊎ ((c : A) × In ms c × (Path ms a c × Goal c))

  complete : (ms : List A) → ((a c : A) → Step a c → In ms c) → (a : A) → Reach A Step Goal a → Found ms a
  complete ms in_list a (there a' g) = inl g
  complete ms in_list a (onward a' c s r) = go (complete ms in_list c r)
    where
      go : Found ms c → Found ms a'
      go (inl g) = inr (c, in_list a' c s, (lift ms a' c s, g))
      go (inr z) = inr (z.0, z.1, (joined ms a' c z.0 (in_list a' c s) (lift ms a' c s) z.2.0, z.2.1))

  -- where all steps lead into the list
  pub reach : ((a c : A) → Decided (Step a c)) → ((a : A) → Decided (Goal a)) → (ms : List A) → ((a c : A) → Step a c → In ms c) → (a : A) → Decided (Reach A Step Goal a)
  reach dec goal ms in_list a = equally (Found ms a) (Reach A Step Goal a)
      (λ z. ⊎_elim (λ g. there a g) (λ z. sound ms a z.0 z.2.0 (there z.0 z.2.1)) z) (complete ms in_list a)
      (either (Goal a) _ (goal a) (one_of A (λ c. Path ms a c × Goal c) (λ c. both (Path ms a c) (Goal c) (path_dec dec ms a c) (goal c)) ms))

-- the numbers below n
abbrev pub below : ℕ → List ℕ
below zero = []
below (suc n) = n ∷ below n

pub in_below : (n m : ℕ) → m < n → In (below n) m
in_below zero m l = absurd (omega arith)
in_below (suc n) m l = go (number n m) (λ l. in_below n m l)
  where
    go : Decided (n ≡ m) → (m < n → In (below n) m) → In (below (suc n)) m
    go (inl e) rest = inl e
    go (inr d) rest = inr (rest (omega (arith, l, d)))
