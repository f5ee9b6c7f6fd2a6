-- Rows of digits: of two the lesser in the order of a dictionary has no greater weight.
use Rattle.std.proofs.Common.{◌≡◌, ◌≢◌, ℕ, suc, ◌<◌, ◌≤◌, ◌+◌, ◌-◌, ◌*◌, ◌^◌, List, [], ◌∷◌, ◌++◌, length, map, refl, sym, ◌∙◌, ap, subst, arith, ⊎_elim, false, true≢false, Ordering, Less, Equal, length-append, reverse}
use Rattle.pv_loops.proofs.Words.{cases_eq, cases_lt, reverse-append, is_lt, nat_cmp, ordering_then, nat_cmp_is, slice_cmp}
use Rattle.pv_loops.proofs.Weights.{weight, one_more, whole, lower_digit}

module _ (place : ℕ → ℕ) (n : ℕ) (deepest : ℕ) where
  -- digits from the one at place k on
  abbrev value : ℕ → List ℕ → ℕ
  value k [] = 0
  value k (d ∷ ds) = d * n ^ (deepest - k) + value (suc k) ds

  abbrev AreLow : List ℕ → Type 0
  AreLow [] = Unit {0}
  AreLow (d ∷ ds) = (d < n) × AreLow ds

  value_last : (k : ℕ) (ds : List ℕ) (d : ℕ) → value k (ds ++ d ∷ []) ≡ value k ds + d * n ^ (deepest - (k + length ds))
  value_last k [] d = (let e : d * n ^ (deepest - k) ≡ d * n ^ (deepest - (k + 0)) = ap (λ i. d * n ^ (deepest - i)) (let w : k ≡ k + 0 = omega arith in w) in omega (arith, e))
  value_last k (c ∷ ds) d =
      let i = value_last (suc k) ds d in
      let e : d * n ^ (deepest - (suc k + length ds)) ≡ d * n ^ (deepest - (k + length (c ∷ ds))) = ap (λ i. d * n ^ (deepest - i)) (let w : suc k + length ds ≡ k + length (c ∷ ds) = omega arith in w) in
      omega (arith, i, e)

  -- the digits of a node, the outermost header first
  abbrev pub digits : List ℕ → List ℕ
  digits [] = []
  digits (h ∷ A) = digits A ++ place h ∷ []

  pub digits_reverse : (A : List ℕ) → digits A ≡ reverse (map place A)
  digits_reverse [] = refl
  digits_reverse (h ∷ A) = ap (λ ds. ds ++ place h ∷ []) (digits_reverse A) ∙ sym (reverse-append (place h ∷ []) (map place A))

  length_digits : (A : List ℕ) → length (digits A) ≡ length A
  length_digits [] = refl
  length_digits (h ∷ A) = omega (arith, length_digits A, length-append (digits A) (place h ∷ []))

  value_digits : (A : List ℕ) → value 0 (digits A) ≡ weight place n deepest A
  value_digits [] = refl
  value_digits (h ∷ A) =
      let i = value_digits A in
      let e : place h * n ^ (deepest - (0 + length (digits A))) ≡ place h * n ^ (deepest - length A) = ap (λ i. place h * n ^ (deepest - i)) (let w : 0 + length (digits A) ≡ length A = omega (arith, length_digits A) in w) in
      let v = value_last 0 (digits A) (place h) in
      omega (arith, i, e, v)

  low_last : (ds : List ℕ) (d : ℕ) → AreLow ds → d < n → AreLow (ds ++ d ∷ [])
  low_last [] d low lt = (lt, tt)
  low_last (c ∷ ds) d low lt = (low.0, low_last ds d low.1 lt)

  module _ (below : (x : ℕ) → place x < n) where
    low_digits : (A : List ℕ) → AreLow (digits A)
    low_digits [] = tt
    low_digits (h ∷ A) = low_last (digits A) (place h) (low_digits A) (below h)

    capped : (k : ℕ) (ds : List ℕ) → AreLow ds → k + length ds ≤ deepest + 1 → value k ds < n ^ (deepest + 1 - k)
    capped k [] low le = one_more place n deepest below (deepest + 1 - k)
    capped k (d ∷ ds) low le =
        let i = capped (suc k) ds low.1 (omega arith) in
        let e : n ^ (deepest + 1 - suc k) ≡ n ^ (deepest - k) = ap (λ i. n ^ i) (let w : deepest + 1 - suc k ≡ deepest - k = omega arith in w) in
        let w = whole place n deepest below k (omega arith) in
        let m = lower_digit place n deepest below d n (n ^ (deepest - k)) low.0 in
        omega (arith, i, e, w, m)

    not_heavier : (k : ℕ) (xs ys : List ℕ) → AreLow xs → k + length xs ≤ deepest + 1 → is_lt (slice_cmp nat_cmp ys xs) ≡ false → value k xs ≤ value k ys
    not_heavier k [] ys low le h = omega arith
    not_heavier k (a ∷ xs) [] low le h = absurd (true≢false h)
    not_heavier k (a ∷ xs) (b ∷ ys) low le h = ⊎_elim
        (λ (lt : b < a). absurd (true≢false (at Less (sym (nat_cmp_is b a Less lt)))))
        (λ (ge : a ≤ b). ⊎_elim
        (λ (e : b ≡ a).
        let i = not_heavier (suc k) xs ys low.1 (omega arith) (at Equal (sym (nat_cmp_is b a Equal e))) in
        let w : a * n ^ (deepest - k) ≡ b * n ^ (deepest - k) = ap (λ d. d * n ^ (deepest - k)) (sym e) in
        omega (arith, i, w))
        (λ (ne : b ≢ a).
        let c = capped (suc k) xs low.1 (omega arith) in
        let e : n ^ (deepest + 1 - suc k) ≡ n ^ (deepest - k) = ap (λ i. n ^ i) (let w : deepest + 1 - suc k ≡ deepest - k = omega arith in w) in
        let m = lower_digit place n deepest below a b (n ^ (deepest - k)) (omega arith) in
        omega (arith, c, e, m))
        (cases_eq b a))
        (cases_lt b a)
      where
        at : (o : Ordering) → nat_cmp b a ≡ o → is_lt (ordering_then o (slice_cmp nat_cmp ys xs)) ≡ false
        at o e = subst (λ (o : Ordering). is_lt (ordering_then o (slice_cmp nat_cmp ys xs)) ≡ false) e h

    pub not_less : (A B : List ℕ) → length A ≤ deepest + 1 → is_lt (slice_cmp nat_cmp (digits B) (digits A)) ≡ false → weight place n deepest A ≤ weight place n deepest B
    not_less A B le h =
        let v = not_heavier 0 (digits A) (digits B) (low_digits A) (omega (arith, le, length_digits A)) h in
        omega (arith, v, value_digits A, value_digits B)
