-- A node is weighed by the places of the headers around it, the outermost first, and then its own: digits to the base n, for at most `deepest` headers and one node.
use Rattle.std.proofs.Common.{◌≡◌, ℕ, zero, suc, ◌<◌, ◌≤◌, ◌+◌, ◌-◌, ◌*◌, ◌^◌, List, [], ◌∷◌, ◌++◌, length, ◌∙◌, ap, subst, arith, length-append, append-nil}
use Rattle.pv_loops.proofs.Words.{mul-le, pow-zero, pow-succ', add-mul}

module _ (place : ℕ → ℕ) (n : ℕ) (deepest : ℕ) where
  -- what a digit below k headers counts
  abbrev pub unit : ℕ → ℕ
  unit k = n ^ (deepest - k)

  abbrev pub weight : List ℕ → ℕ
  weight [] = 0
  weight (h ∷ A) = weight A + place h * unit (length A)

  -- the weight of a node inside these headers
  abbrev pub weigh : List ℕ → ℕ → ℕ
  weigh A x = weight A + place x * unit (length A)

  -- all nodes inside these headers weigh less
  abbrev cap : List ℕ → ℕ
  cap A = weight A + n ^ (deepest + 1 - length A)

  module _ (below : (x : ℕ) → place x < n) where
    pub one_more : (k : ℕ) → 0 < n ^ k
    one_more zero = omega (arith, pow-zero n)
    one_more (suc k) = let i = one_more k in let b = below 0 in let m = mul-le 1 1 n (n ^ k) (omega arith) i in omega (arith, pow-succ' n k, m)

    pub whole : (k : ℕ) → k ≤ deepest → n ^ (deepest + 1 - k) ≡ n * unit k
    whole k le = ap (λ v. n ^ v) (let e : deepest + 1 - k ≡ suc (deepest - k) = omega arith in e) ∙ pow-succ' n (deepest - k)

    -- a lower digit
    pub lower_digit : (a b u : ℕ) → a < b → a * u + u ≤ b * u
    lower_digit a b u lt = let m = mul-le (a + 1) u b u (omega arith) (omega arith) in omega (arith, add-mul a 1 u, m)

    below_cap : (A : List ℕ) (x : ℕ) → length A ≤ deepest → weigh A x < cap A
    below_cap A x le = let d = lower_digit (place x) n (unit (length A)) (below x) in let w = whole (length A) le in let p = one_more (deepest - length A) in omega arith

    cap_inner : (h : ℕ) (A : List ℕ) → length A ≤ deepest → cap (h ∷ A) ≡ weigh A h + unit (length A)
    cap_inner h A le = ap (λ v. weigh A h + n ^ v) (let e : deepest + 1 - length (h ∷ A) ≡ deepest - length A = omega arith in e)

    cap_within : (G A : List ℕ) → length (G ++ A) ≤ deepest → cap (G ++ A) ≤ cap A
    cap_within [] A le = omega arith
    cap_within (g ∷ G) A le =
        let i = cap_within G A (omega arith) in
        let c = cap_inner g (G ++ A) (omega arith) in
        let d = lower_digit (place g) n (unit (length (G ++ A))) (below g) in
        let w = whole (length (G ++ A)) (omega arith) in
        omega arith

    -- a node beside a header weighs more than all nodes inside it, if its place is later
    pub lower : (G : List ℕ) (z : ℕ) (D : List ℕ) (x b : ℕ) → length (G ++ z ∷ D) ≤ deepest → place z < place b → weigh (G ++ z ∷ D) x < weigh D b
    lower G z D x b le lt =
        let len = length-append G (z ∷ D) in
        let i = below_cap (G ++ z ∷ D) x le in
        let j = cap_within G (z ∷ D) le in
        let c = cap_inner z D (omega arith) in
        let d = lower_digit (place z) (place b) (unit (length D)) lt in
        omega arith

    pub lower_beside : (D : List ℕ) (a b : ℕ) → place a < place b → weigh D a < weigh D b
    lower_beside D a b lt = let d = lower_digit (place a) (place b) (unit (length D)) lt in let p = one_more (deepest - length D) in omega arith

    pub not_above : (D : List ℕ) (a b : ℕ) → place a ≤ place b → weigh D a ≤ weigh D b
    not_above D a b le = let d = mul-le (place a) (unit (length D)) (place b) (unit (length D)) le (omega arith) in omega arith

    -- a row whose last digit that differs is lower weighs less
    pub less : (G : List ℕ) (u v : ℕ) (D : List ℕ) → length (G ++ u ∷ D) ≤ deepest + 1 → place u < place v → weight (G ++ u ∷ D) < weight (v ∷ D)
    less [] u v D le lt = lower_beside D u v lt
    less (x ∷ G) u v D le lt = lower G u D x v (omega arith) lt

    pub positive : (A : List ℕ) (x : ℕ) → 0 < place x → 0 < weigh A x
    positive A x lt = let p = one_more (deepest - length A) in let d = lower_digit 0 (place x) (unit (length A)) lt in omega (arith, p, d)

    -- headers add to the weight
    pub heavier : (G A : List ℕ) → weight A ≤ weight (G ++ A)
    heavier [] A = omega arith
    heavier (g ∷ G) A = let i = heavier G A in omega arith

    pub below_top : (A : List ℕ) (x : ℕ) → length A ≤ deepest → weigh A x < n ^ (deepest + 1)
    below_top A x le =
        let b = below_cap A x le in
        let c = subst (λ (l : List ℕ). cap l ≤ cap []) (append-nil A) (cap_within A [] (omega (arith, length-append A []))) in
        let e : n ^ (deepest + 1 - length {A = ℕ} []) ≡ n ^ (deepest + 1) = ap (λ v. n ^ v) (let z : deepest + 1 - 0 ≡ deepest + 1 = omega arith in z) in
        omega arith
