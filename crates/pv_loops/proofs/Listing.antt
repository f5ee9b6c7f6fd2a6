-- Loops in a list.
use Rattle.std.proofs.Common.{◌≡◌, ◌≢◌, ℕ, ◌<◌, ◌≤◌, ◌+◌, zero, suc, List, [], ◌∷◌, ◌++◌, length, get_or, set, refl, sym, ◌∙◌, ap, subst, arith, ◌⊎◌, inl, inr, ⊎_elim, Some, None, get_or-set_other, get_or-set_same, append_assoc, append-nil, length-append, length-set, slice_get}
use Rattle.pv_loops.proofs.Words.{cases_eq, cases_lt, get_or_append_left, get_or_push, get_or_default, slice_get_within, slice_get_cases, slice_get_read, get_or_from_slice_get, Contains-get_or, Contains-append_right, Contains, IsStrictlyIncreasing}

-- a list without its first number
abbrev pub rest : List ℕ → List ℕ
rest [] = []
rest (x ∷ xs) = xs

-- a list with an element has a last one
pub last_of : (xs : List ℕ) → (xs ≡ []) ⊎ ((front : List ℕ) × (z : ℕ) × (xs ≡ front ++ z ∷ []))
last_of [] = inl refl
last_of (x ∷ xs) = ⊎_elim
    (λ (e : xs ≡ []). inr ([], x, ap (λ (l : List ℕ). x ∷ l) e))
    (λ (q : (front : List ℕ) × (z : ℕ) × (xs ≡ front ++ z ∷ [])). inr (x ∷ q.0, q.1, ap (λ (l : List ℕ). x ∷ l) q.2))
    (last_of xs)

-- a number is in a list, or it isn't
pub found_or_not : (xs : List ℕ) (h : ℕ) → ((G : List ℕ) × (B : List ℕ) × (xs ≡ G ++ h ∷ B)) ⊎ (Contains xs h → ⊥)
found_or_not [] h = inr (λ c. let lt = c.1 in omega (arith, lt))
found_or_not (x ∷ xs) h = ⊎_elim
    (λ (e : x ≡ h). inl ([], xs, ap (λ v. v ∷ xs) e))
    (λ (ne : x ≢ h). ⊎_elim
    (λ (q : (G : List ℕ) × (B : List ℕ) × (xs ≡ G ++ h ∷ B)). inl (x ∷ q.0, q.1, ap (λ (l : List ℕ). x ∷ l) q.2))
    (λ (not_in : Contains xs h → ⊥). inr (λ c. other ne not_in c))
    (found_or_not xs h))
    (cases_eq x h)
  where
    other : x ≢ h → (Contains xs h → ⊥) → Contains (x ∷ xs) h → ⊥
    other ne not_in (zero, lt, e) = ne e
    other ne not_in (suc k, lt, e) = not_in (k, omega arith, e)

pub split_at : (xs : List ℕ) (h : ℕ) → Contains xs h → (G : List ℕ) × (B : List ℕ) × (xs ≡ G ++ h ∷ B)
split_at xs h c = ⊎_elim (λ (q : (G : List ℕ) × (B : List ℕ) × (xs ≡ G ++ h ∷ B)). q) (λ (not_in : Contains xs h → ⊥). absurd (not_in c)) (found_or_not xs h)

pub split_has : (xs G : List ℕ) (h : ℕ) (B : List ℕ) → xs ≡ G ++ h ∷ B → Contains xs h
split_has xs G h B e = subst (λ (l : List ℕ). Contains l h) (sym e) (Contains-append_right G (h ∷ B) h (Contains-get_or (h ∷ B) 0 0 (omega arith)))

-- two lists that end alike, up to two numbers that differ
pub record Fork (us vs : List ℕ) : Type 0 where
  pub left : List ℕ
  pub u : ℕ
  pub right : List ℕ
  pub v : ℕ
  pub common : List ℕ
  pub differ : u ≢ v
  pub us_is : us ≡ left ++ u ∷ common
  pub vs_is : vs ≡ right ++ v ∷ common

abbrev pub fork_back : (us vs xs : List ℕ) → Fork us vs → Fork (xs ++ vs) us
fork_back us vs xs k = record {
  left = xs ++ k.right;
  u = k.v;
  right = k.left;
  v = k.u;
  common = k.common;
  differ = λ e. k.differ (sym e);
  us_is = ap (λ (l : List ℕ). xs ++ l) k.vs_is ∙ sym (append_assoc xs k.right (k.v ∷ k.common));
  vs_is = k.us_is;
}

-- one of two lists ends in the other, or they fork
pub fork : (us vs : List ℕ) → ((xs : List ℕ) × (us ≡ xs ++ vs)) ⊎ (((xs : List ℕ) × (vs ≡ xs ++ us)) ⊎ Fork us vs)
fork [] vs = inr (inl (vs, sym (append-nil vs)))
fork (x ∷ us) vs = ⊎_elim
    (λ (q : (xs : List ℕ) × (us ≡ xs ++ vs)). inl (x ∷ q.0, ap (λ (l : List ℕ). x ∷ l) q.1))
    (λ (q : ((xs : List ℕ) × (vs ≡ xs ++ us)) ⊎ Fork us vs). ⊎_elim
    (λ (q : (xs : List ℕ) × (vs ≡ xs ++ us)). ⊎_elim
    (λ (none : q.0 ≡ []). inl (x ∷ [], ap (λ (l : List ℕ). x ∷ l) (sym (q.1 ∙ ap (λ (l : List ℕ). l ++ us) none))))
    (λ (l : (front : List ℕ) × (z : ℕ) × (q.0 ≡ front ++ z ∷ [])).
    let e : vs ≡ l.0 ++ l.1 ∷ us = q.1 ∙ ap (λ (l : List ℕ). l ++ us) l.2 ∙ append_assoc l.0 (l.1 ∷ []) us in ⊎_elim
    (λ (same : x ≡ l.1). inr (inl (l.0, e ∙ ap (λ v. l.0 ++ v ∷ us) (sym same))))
    (λ (ne : x ≢ l.1). inr (inr (record { left = []; u = x; right = l.0; v = l.1; common = us; differ = ne; us_is = refl; vs_is = e })))
    (cases_eq x l.1))
    (last_of q.0))
    (λ (k : Fork us vs). inr (inr (record { left = x ∷ k.left; u = k.u; right = k.right; v = k.v; common = k.common; differ = k.differ; us_is = ap (λ (l : List ℕ). x ∷ l) k.us_is; vs_is = k.vs_is })))
    q)
    (fork us vs)

-- a list with one number more
module _ (xs : List ℕ) (y : ℕ) where
  pub length_more : length (xs ++ y ∷ []) ≡ length xs + 1
  length_more = length-append xs (y ∷ [])

  pub front_more : (k : ℕ) → k < length xs → get_or (xs ++ y ∷ []) k 0 ≡ get_or xs k 0
  front_more k lt = get_or_append_left xs (y ∷ []) 0 k lt

  pub last_more : get_or (xs ++ y ∷ []) (length xs) 0 ≡ y
  last_more = get_or_push xs y 0 (length xs) refl

  -- what holds of each of its numbers, by whether it's the last
  pub by_last : (P : ℕ → Type 0) (k : ℕ) → k < length (xs ++ y ∷ []) → (k < length xs → P (get_or xs k 0)) → P y → P (get_or (xs ++ y ∷ []) k 0)
  by_last P k lt a b = ⊎_elim
      (λ (l : k < length xs). subst P (sym (front_more k l)) (a l))
      (λ (l : length xs ≤ k). let e : k ≡ length xs = omega (arith, length_more) in subst P (sym (ap (λ v. get_or (xs ++ y ∷ []) v 0) e ∙ last_more)) b)
      (cases_lt k (length xs))

-- there is an element at each place
pub listed_at : {X : Type 0} (xs : List X) (i : ℕ) → i < length xs → (x : X) × (slice_get xs i ≡ Some x)
listed_at {X} xs i lt = ⊎_elim
    (λ (h : (x : X) × (i < length xs) × (slice_get xs i ≡ Some x) × (get_or xs i x ≡ x)). (h.0, h.2))
    (λ (h : (length xs ≤ i) × (slice_get xs i ≡ None)). let ge = h.0 in absurd (omega (arith, lt, ge)))
    (slice_get_cases xs i).1

pub listed_read : {X : Type 0} (xs : List X) (i : ℕ) (x : X) → i < length xs → get_or xs i x ≡ x → slice_get xs i ≡ Some x
listed_read xs i x lt e = slice_get_read xs (length xs) i x refl lt (sym e)

-- what a read gives
pub read_at : {X : Type 0} (xs : List X) (i : ℕ) (d x : X) → i < length xs → x ≡ get_or xs i x → get_or xs i d ≡ x
read_at xs i d x lt e = get_or_default xs i d x lt ∙ sym e

-- an element after a write
pub set_at : {X : Type 0} (xs : List X) (k : ℕ) (y : X) (i : ℕ) (x : X) → slice_get (set xs k y) i ≡ Some x → ((i ≢ k) × (slice_get xs i ≡ Some x)) ⊎ ((i ≡ k) × (x ≡ y))
set_at xs k y i x e =
    let within = slice_get_within (set xs k y) i x e in
    let lt : i < length xs = omega (arith, within, length-set xs k y) in
    let at : get_or (set xs k y) i x ≡ x = get_or_from_slice_get (set xs k y) i x x e in ⊎_elim
    (λ (h : i ≡ k). inr (h, sym at ∙ ap (λ v. get_or (set xs k y) v x) h ∙ get_or-set_same xs k y x (omega (arith, lt, h))))
    (λ (h : i ≢ k). inl (h, listed_read xs i x lt (sym (get_or-set_other xs k i y x h) ∙ at)))
    (cases_eq i k)

-- each number is below each later one
pub increases : (xs : List ℕ) → IsStrictlyIncreasing xs → (i j : ℕ) → i < j → j < length xs → get_or xs i 0 < get_or xs j 0
increases xs I i zero lt h = absurd (omega arith)
increases xs I i (suc j) lt h = ⊎_elim
    (λ (less : i < j). let a = increases xs I i j less (omega arith) in let b = I j (omega arith) in let q = ap (λ v. get_or xs v 0) (the_suc j) in omega (arith, a, b, q))
    (λ (ge : j ≤ i). let b = I j (omega arith) in let q = ap (λ v. get_or xs v 0) (the_suc j) in let e : i ≡ j = omega arith in let p = ap (λ v. get_or xs v 0) e in omega (arith, b, p, q))
    (cases_lt i j)
  where
    the_suc : (j : ℕ) → suc j ≡ j + 1
    the_suc j = omega arith
