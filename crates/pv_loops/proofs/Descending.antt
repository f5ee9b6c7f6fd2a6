-- Steps are taken while one applies: a shape in which none can be stuck is reduced to one node.
use Rattle.std.proofs.Common.{◌≡◌, ◌≢◌, ℕ, zero, suc, ◌<◌, ◌≤◌, ◌+◌, List, [], ◌∷◌, length, refl, sym, subst, arith, ◌⊎◌, inl, inr, ⊎_elim}
use Rattle.pv_loops.proofs.Words.{cases_eq, cases_lt, TStep, T1, T2, targets, IsShape, Graph, graph_of, Applies, after, AllApply, after_all, ReduceToOne, IsReducible}
use Rattle.pv_loops.proofs.Deciding.{differ, Decided, both, all_three, all_four, either, implies, some_below, all_below, contains_decided, count, count_le, count_less, count_more}
use Rattle.pv_loops.proofs.Grouping.{source_within}

-- a graph of nodes below n, with tests for its nodes and edges
record IsFinite (n : ℕ) (g : Graph) : Type 0 where
  node : (a : ℕ) → Decided (g.Node a)
  arrow : (a b : ℕ) → Decided (g.Arrow a b)
  within : (a : ℕ) → g.Node a → a < n
  ends : (a b : ℕ) → g.Arrow a b → g.Node a × g.Node b

finite_shape : (s : List (List ℕ)) → IsShape s → IsFinite (length s) (graph_of s)
finite_shape s S = record {
  node = λ a. below a (length s);
  arrow = λ a b. contains_decided (targets s a) b;
  within = λ a h. h;
  ends = λ a b e. (source_within s a b e, S.within a b e);
}
  where
    below : (a n : ℕ) → Decided (a < n)
    below a n = ⊎_elim (λ (h : a < n). inl h) (λ (h : n ≤ a). inr (λ lt. omega arith)) (cases_lt a n)

finite_after : (n : ℕ) (g : Graph) (t : TStep) → IsFinite n g → Applies g t → IsFinite n (after g t)
finite_after n g (T1 k) F a = record {
  node = F.node;
  arrow = λ b c. both _ _ (F.arrow b c) (implies _ _ (cases_eq b k) (differ c k));
  within = F.within;
  ends = λ b c e. F.ends b c e.0;
}
finite_after n g (T2 k p) F (nonzero, other, arrow, only) = record {
  node = λ b. both _ _ (F.node b) (differ b k);
  arrow = λ b c. all_three _ _ _ (differ b k) (differ c k) (either _ _ (F.arrow b c) (both _ _ (cases_eq b p) (F.arrow k c)));
  within = λ b h. F.within b h.0;
  ends = λ b c e. ⊎_elim
      (λ (h : g.Arrow b c). (((F.ends b c h).0, e.0), ((F.ends b c h).1, e.1)))
      (λ (h : (b ≡ p) × g.Arrow k c). ((subst (λ v. g.Node v) (sym h.0) (F.ends p k arrow).0, e.0), ((F.ends k c h.1).1, e.1)))
      e.2;
}

-- a step that applies, if there is one
next_step : (n : ℕ) (g : Graph) → IsFinite n g → ((t : TStep) × Applies g t) ⊎ ((t : TStep) → Applies g t → ⊥)
next_step n g F = go own merged
  where
    sole : (k p : ℕ) → Decided ((q : ℕ) → g.Arrow q k → q ≡ p)
    sole k p = ⊎_elim
        (λ (f : (q : ℕ) → q < n → g.Arrow q k → q ≡ p). inl (λ q a. f q (F.within q (F.ends q k a).0) a))
        (λ (f : ((q : ℕ) → q < n → g.Arrow q k → q ≡ p) → ⊥). inr (λ h. f (λ q _. h q)))
        (all_below (λ q. g.Arrow q k → q ≡ p) (λ q. implies _ _ (F.arrow q k) (cases_eq q p)) n)

    own : Decided ((a : ℕ) × (a < n) × g.Arrow a a)
    own = some_below (λ a. g.Arrow a a) (λ a. F.arrow a a) n

    merged : Decided ((k : ℕ) × (k < n) × ((p : ℕ) × (p < n) × Applies g (T2 k p)))
    merged = some_below (λ k. (p : ℕ) × (p < n) × Applies g (T2 k p)) (λ k. some_below (λ p. Applies g (T2 k p)) (λ p. all_four _ _ _ _ (differ k 0) (differ p k) (F.arrow p k) (sole k p)) n) n

    none : (((a : ℕ) × (a < n) × g.Arrow a a) → ⊥) → (((k : ℕ) × (k < n) × ((p : ℕ) × (p < n) × Applies g (T2 k p))) → ⊥) → (t : TStep) → Applies g t → ⊥
    none no_own no_merge (T1 k) a = no_own (k, F.within k (F.ends k k a).0, a)
    none no_own no_merge (T2 k p) a = no_merge (k, F.within k (F.ends p k a.2).1, (p, F.within p (F.ends p k a.2).0, a))

    go : Decided ((a : ℕ) × (a < n) × g.Arrow a a) → Decided ((k : ℕ) × (k < n) × ((p : ℕ) × (p < n) × Applies g (T2 k p))) → ((t : TStep) × Applies g t) ⊎ ((t : TStep) → Applies g t → ⊥)
    go (inl q) d = inl (T1 q.0, q.2)
    go (inr q) (inl r) = inl (T2 r.0 r.2.0, r.2.2)
    go (inr q) (inr r) = inr (none q r)

-- twice the number of nodes, and that of nodes with an edge to themselves: T1 makes one of these less, and T2 one node less and at most one of these more
abbrev size : (n : ℕ) (g : Graph) → IsFinite n g → ℕ
size n g F = count g.Node F.node n + count g.Node F.node n + count (λ a. g.Arrow a a) (λ a. F.arrow a a) n

smaller : (n : ℕ) (g : Graph) (F : IsFinite n g) (t : TStep) (G : IsFinite n (after g t)) → Applies g t → size n (after g t) G < size n g F
smaller n g F (T1 k) G a =
    let i = count_le g.Node g.Node F.node G.node n (λ b _ h. h) in
    let o = count_less (λ b. g.Arrow b b) (λ b. (after g (T1 k)).Arrow b b) (λ b. F.arrow b b) (λ b. G.arrow b b) n (λ b h. h.0) k (F.within k (F.ends k k a).0) a (λ h. h.1 refl refl) in
    omega (arith, i, o)
smaller n g F (T2 k p) G (nonzero, other, arrow, only) =
    let i = count_less g.Node (after g (T2 k p)).Node F.node G.node n (λ b h. h.0) k (F.within k (F.ends p k arrow).1) (F.ends p k arrow).1 (λ h. h.1 refl) in
    let o = count_more (λ b. g.Arrow b b) (λ b. (after g (T2 k p)).Arrow b b) (λ b. F.arrow b b) (λ b. G.arrow b b) n p (λ b h ne. ⊎_elim (λ (x : g.Arrow b b). x) (λ (x : (b ≡ p) × g.Arrow k b). absurd (ne x.0)) h.2) in
    omega (arith, i, o)

-- steps to where none applies
record Ended (n : ℕ) (g : Graph) : Type 0 where
  steps : List TStep
  apply : AllApply g steps
  last : (t : TStep) → Applies (after_all g steps) t → ⊥
  finite : IsFinite n (after_all g steps)

descend : (fuel n : ℕ) (g : Graph) (F : IsFinite n g) → size n g F < fuel → Ended n g
descend zero n g F lt = absurd (omega arith)
descend (suc fuel) n g F lt = ⊎_elim
    (λ (q : (t : TStep) × Applies g t).
    let G = finite_after n g q.0 F q.1 in
    let E = descend fuel n (after g q.0) G (let less = smaller n g F q.0 G q.1 in omega (arith, less, lt)) in
    record { steps = q.0 ∷ E.steps; apply = (q.1, E.apply); last = E.last; finite = E.finite })
    (λ (none : (t : TStep) → Applies g t → ⊥). record { steps = []; apply = tt; last = none; finite = F })
    (next_step n g F)

pub keeps_entry : (g : Graph) (ts : List TStep) → g.Node 0 → AllApply g ts → (after_all g ts).Node 0
keeps_entry g [] node a = node
keeps_entry g (T1 k ∷ ts) node a = keeps_entry (after g (T1 k)) ts node a.1
keeps_entry g (T2 k p ∷ ts) node a = keeps_entry (after g (T2 k p)) ts (node, λ e. a.0.0 (sym e)) a.1

pub reduces_to_one : (s : List (List ℕ)) → IsShape s → IsReducible s → (ts : List TStep) × ReduceToOne s ts
reduces_to_one s S red = go (some_below (λ a. g.Node a × (a ≢ 0)) (λ a. both _ _ (E.finite.node a) (differ a 0)) (length s))
  where
    E : Ended (length s) (graph_of s)
    E = descend (suc (size (length s) (graph_of s) (finite_shape s S))) (length s) (graph_of s) (finite_shape s S) (omega arith)

    g : Graph
    g = after_all (graph_of s) E.steps

    go : Decided ((a : ℕ) × (a < length s) × (g.Node a × (a ≢ 0))) → (ts : List TStep) × ReduceToOne s ts
    go (inl q) = absurd (red E.steps (E.apply, record { nodes = (0, q.0, keeps_entry (graph_of s) E.steps S.entry E.apply, q.2.0, λ e. q.2.1 (sym e)); ends = E.last }))
    go (inr q) = (E.steps, (E.apply, λ a h. ⊎_elim (λ (e : a ≡ 0). e) (λ (ne : a ≢ 0). absurd (q (a, E.finite.within a h, (h, ne)))) (cases_eq a 0)))
