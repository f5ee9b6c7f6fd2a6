-- Small shapes: one that is irreducible, with edges from the entry to 1 and 2 and between these both ways, and one with a loop.
use Rattle.std.proofs.Common.{◌≡◌, ◌≢◌, ℕ, zero, suc, List, [], ◌∷◌, refl, sym, subst, arith, ◌⊎◌, inl, inr, ⊎_elim}
use Rattle.pv_loops.proofs.Words.{Contains, TStep, T1, T2, Edge, Applies, graph_of, Stuck, IsReducible, ReduceToOne, Whole, Way, edge, IsLoop, outermost}
use Rattle.pv_loops.proofs.Grouping.{one_reducible}
use Rattle.pv_loops.proofs.Bodies.{way_last}

abbrev two_entries : List (List ℕ)
two_entries = (1 ∷ 2 ∷ []) ∷ (2 ∷ []) ∷ (1 ∷ []) ∷ []

-- its edges
edges : (a b : ℕ) → Edge two_entries a b → ((b ≡ 1) × ((a ≡ 0) ⊎ (a ≡ 2))) ⊎ ((b ≡ 2) × ((a ≡ 0) ⊎ (a ≡ 1)))
edges zero b (zero, lt, e) = inl (sym e, inl refl)
edges zero b (suc zero, lt, e) = inr (sym e, inl refl)
edges zero b (suc (suc k), lt, e) = absurd (omega arith)
edges (suc zero) b (zero, lt, e) = inr (sym e, inr refl)
edges (suc zero) b (suc k, lt, e) = absurd (omega arith)
edges (suc (suc zero)) b (zero, lt, e) = inl (sym e, inr refl)
edges (suc (suc zero)) b (suc k, lt, e) = absurd (omega arith)
edges (suc (suc (suc a))) b (k, lt, e) = absurd (omega arith)

no_step : (t : TStep) → Applies (graph_of two_entries) t → ⊥
no_step (T1 n) a = ⊎_elim
    (λ (h : (n ≡ 1) × ((n ≡ 0) ⊎ (n ≡ 2))). ⊎_elim (λ (z : n ≡ 0). let q = h.0 in omega (arith, q, z)) (λ (z : n ≡ 2). let q = h.0 in omega (arith, q, z)) h.1)
    (λ (h : (n ≡ 2) × ((n ≡ 0) ⊎ (n ≡ 1))). ⊎_elim (λ (z : n ≡ 0). let q = h.0 in omega (arith, q, z)) (λ (z : n ≡ 1). let q = h.0 in omega (arith, q, z)) h.1)
    (edges n n a)
no_step (T2 n p) (nonzero, other, arrow, only) = ⊎_elim
    (λ (h : (n ≡ 1) × ((p ≡ 0) ⊎ (p ≡ 2))).
    let first : 0 ≡ p = only 0 (subst (λ v. Edge two_entries 0 v) (sym h.0) (0, omega arith, refl)) in
    let second : 2 ≡ p = only 2 (subst (λ v. Edge two_entries 2 v) (sym h.0) (0, omega arith, refl)) in omega (arith, first, second))
    (λ (h : (n ≡ 2) × ((p ≡ 0) ⊎ (p ≡ 1))).
    let first : 0 ≡ p = only 0 (subst (λ v. Edge two_entries 0 v) (sym h.0) (1, omega arith, refl)) in
    let second : 1 ≡ p = only 1 (subst (λ v. Edge two_entries 1 v) (sym h.0) (0, omega arith, refl)) in omega (arith, first, second))
    (edges p n arrow)

-- no step applies, so the empty list of steps is stuck
two_entries_stuck : Stuck two_entries []
two_entries_stuck = (tt, record { nodes = (0, 1, omega arith, omega arith, λ e. omega (arith, e)); ends = no_step })

-- and the shape isn't reducible
two_entries_irreducible : IsReducible two_entries → ⊥
two_entries_irreducible r = r [] two_entries_stuck

-- a node with an edge to itself after the entry
abbrev one_loop : List (List ℕ)
one_loop = (1 ∷ []) ∷ (1 ∷ []) ∷ []

-- its edges all go to 1
to_one : (a b : ℕ) → Edge one_loop a b → (b ≡ 1) × ((a ≡ 0) ⊎ (a ≡ 1))
to_one zero b (zero, lt, e) = (sym e, inl refl)
to_one zero b (suc k, lt, e) = absurd (omega arith)
to_one (suc zero) b (zero, lt, e) = (sym e, inr refl)
to_one (suc zero) b (suc k, lt, e) = absurd (omega arith)
to_one (suc (suc a)) b (k, lt, e) = absurd (omega arith)

-- T1 at 1 and T2 of 1 into the entry reduce it to the entry
one_loop_reduces : ReduceToOne one_loop (T1 1 ∷ T2 1 0 ∷ [])
one_loop_reduces = (((0, omega arith, refl), (((λ e. omega (arith, e)), (λ e. omega (arith, e)), ((0, omega arith, refl), (λ e _. omega (arith, e))), λ q a. sole q 1 refl a), tt)), (λ a h. let lt = h.0 in let ne = h.1 in omega (arith, lt, ne)))
  where
    sole : (q n : ℕ) → n ≡ 1 → Edge one_loop q n × ((q ≡ 1) → n ≢ 1) → q ≡ 0
    sole q n e a = ⊎_elim (λ (z : q ≡ 0). z) (λ (z : q ≡ 1). absurd (a.1 z e)) (to_one q n a.0).1

-- so no steps are stuck
one_loop_reducible : IsReducible one_loop
one_loop_reducible = one_reducible one_loop (T1 1 ∷ T2 1 0 ∷ []) one_loop_reduces

only_one : (a : ℕ) → Contains (1 ∷ []) a → a ≡ 1
only_one a (zero, lt, e) = sym e
only_one a (suc k, lt, e) = absurd (omega arith)

-- its one loop has the header 1 and no other node
one_loop_loop : IsLoop one_loop (1 ∷ []) (1 ∷ [])
one_loop_loop = outermost 1 (1 ∷ [])
    (record {
      some = (1, (0, omega arith, refl));
      connected = λ a b ca cb. subst (λ v. Way one_loop Whole (1 ∷ []) v b) (sym (only_one a ca)) (subst (λ v. Way one_loop Whole (1 ∷ []) 1 v) (sym (only_one b cb)) (edge 1 1 (0, omega arith, refl) (0, omega arith, refl) (0, omega arith, refl)));
      largest = λ larger _ con a ca. let last = way_last one_loop Whole larger a a (con a a ca ca) in (0, omega arith, sym (to_one last.0 a last.1).0);
    })
    (record {
      member = (0, omega arith, refl);
      enters = inr (0, (0, omega arith, refl), λ c. (let q = only_one 0 c in omega (arith, q)));
      only = λ b cb _. only_one b cb;
    })
