-- The bodies of headers and the headers around them, found by going over the nodes.
use Rattle.std.proofs.Common.{◌≡◌, ◌≢◌, ℕ, zero, suc, ◌<◌, ◌≤◌, ◌+◌, List, [], ◌∷◌, length, get_or, sym, subst, arith, ◌⊎◌, inl, inr, ⊎_elim}
use Rattle.pv_loops.proofs.Words.{cases_eq, cases_lt, Contains, Edge, targets, IsShape, IsReversed, IsOrder, IsHead, Reaches, back, before, InBody, AreBody, Encloses, alone, within}
use Rattle.pv_loops.proofs.Bodies.{head_of, body_in}
use Rattle.pv_loops.proofs.Deciding.{differ, Decided, both, all_three, either, negated, some_below, contains_decided, count, count_less, count_most, greatest, those, those_has, those_only}
use Rattle.pv_loops.proofs.Grouping.{source_within}
use Rattle.pv_loops.proofs.Merged.{table, length-table, get_or-table}
use Rattle.pv_loops.proofs.Nesting.{low, same_head}

-- the sources of the nodes of a shape
sources_row : List (List ℕ) → ℕ → List ℕ
sources_row s b = those (λ a. Edge s a b) (λ a. contains_decided (targets s a) b) (length s)

pub sources_of : List (List ℕ) → List (List ℕ)
sources_of s = table (sources_row s) (length s)

pub reversed : (s : List (List ℕ)) → IsShape s → IsReversed s (sources_of s)
unfolding sources_of sources_row
reversed s S = record {
  size = length-table (sources_row s) (length s);
  edges = λ a b. (
    (λ e.
        let lt = source_within (sources_of s) b a e in
        let c : Contains (sources_row s b) a = subst (λ (l : List ℕ). Contains l a) (get_or-table (sources_row s) (length s) b [] (omega (arith, lt, length-table (sources_row s) (length s)))) e in
        (those_only (λ a. Edge s a b) (λ a. contains_decided (targets s a) b) (length s) a c).1),
    (λ e. subst (λ (l : List ℕ). Contains l a) (sym (get_or-table (sources_row s) (length s) b [] (S.within a b e)))
        (those_has (λ a. Edge s a b) (λ a. contains_decided (targets s a) b) (length s) a (source_within s a b e) e)),
  );
}

below : (a n : ℕ) → Decided (a ≤ n)
below a n = ⊎_elim (λ (h : n < a). inr (λ le. omega arith)) (λ (h : a ≤ n). inl h) (cases_lt n a)

module _ (sources : List (List ℕ)) (order place : List ℕ) (S : IsShape sources) (O : IsOrder sources order place) where
  abbrev P : ℕ → ℕ
  P x = get_or place x 0

  abbrev Head : ℕ → Type 0
  Head h = IsHead sources place h

  abbrev Body : ℕ → ℕ → Type 0
  Body h x = InBody sources place h x

  -- an edge back to h is reached in at most k edges more
  abbrev Near : ℕ → ℕ → ℕ → Type 0
  Near h zero x = Edge sources h x × (P h ≤ P x)
  Near h (suc k) x = Near h k x ⊎ ((y : ℕ) × (y < length sources) × (Near h k y × (y ≢ h) × Edge sources y x))

  near_decided : (h k x : ℕ) → Decided (Near h k x)
  near_decided h zero x = both _ _ (contains_decided (targets sources h) x) (below (P h) (P x))
  near_decided h (suc k) x = either _ _ (near_decided h k x) (some_below _ (λ y. all_three _ _ _ (near_decided h k y) (differ y h) (contains_decided (targets sources y) x)) (length sources))

  near_reaches : (h k x : ℕ) → Near h k x → Reaches sources place h x
  near_reaches h zero x q = back x q.0 q.1
  near_reaches h (suc k) x (inl q) = near_reaches h k x q
  near_reaches h (suc k) x (inr q) = before q.0 x (near_reaches h k q.0 q.2.0) q.2.1 q.2.2

  -- no node is reached only by one edge more
  abbrev Stable : ℕ → ℕ → Type 0
  Stable h k = (x : ℕ) → x < length sources → Near h (suc k) x → Near h k x

  near_first : (h k x : ℕ) → Near h zero x → Near h k x
  near_first h zero x q = q
  near_first h (suc k) x q = inl (near_first h k x q)

  reaches_near : (h k : ℕ) → Stable h k → (x : ℕ) → Reaches sources place h x → Near h k x
  reaches_near h k stable _ (back x e le) = near_first h k x (e, le)
  reaches_near h k stable _ (before y x r ne e) =
      let q = reaches_near h k stable y r in
      stable x (S.within y x e) (inr (y, source_within sources y x e, (q, ne, e)))

  stable_at : (fuel h k : ℕ) → length sources < count (Near h k) (near_decided h k) (length sources) + fuel → (j : ℕ) × Stable h j
  stable_at zero h k lt = let most = count_most (Near h k) (near_decided h k) (length sources) in absurd (omega (arith, lt, most))
  stable_at (suc fuel) h k lt = ⊎_elim
      (λ (q : (x : ℕ) × (x < length sources) × (Near h (suc k) x × (Near h k x → ⊥))).
      let more = count_less (Near h (suc k)) (Near h k) (near_decided h (suc k)) (near_decided h k) (length sources) (λ a r. inl r) q.0 q.1 q.2.0 q.2.1 in
      stable_at fuel h (suc k) (omega (arith, more, lt)))
      (λ (none : ((x : ℕ) × (x < length sources) × (Near h (suc k) x × (Near h k x → ⊥))) → ⊥). (
        k,
        λ x less near. ⊎_elim
            (λ (r : Near h k x). r)
            (λ (r : Near h k x → ⊥). absurd (none (x, less, (near, r))))
            (near_decided h k x),
      ))
      (some_below (λ x. Near h (suc k) x × (Near h k x → ⊥)) (λ x. both _ _ (near_decided h (suc k) x) (negated _ (near_decided h k x))) (length sources))

  pub body_decided : (h x : ℕ) → Decided (Body h x)
  body_decided h x = either _ _ (cases_eq x h) reached
    where
      j : (k : ℕ) × Stable h k
      j = stable_at (suc (length sources)) h 0 (omega arith)

      reached : Decided (Reaches sources place h x)
      reached = ⊎_elim
          (λ (q : Near h j.0 x). inl (near_reaches h j.0 x q))
          (λ (q : Near h j.0 x → ⊥). inr (λ r. q (reaches_near h j.0 j.1 x r)))
          (near_decided h j.0 x)

  head_decided : (h : ℕ) → Decided (Head h)
  head_decided h = ⊎_elim
      (λ (q : (w : ℕ) × (w < length sources) × (Edge sources h w × (P h ≤ P w))). inl (q.0, q.2.0, q.2.1))
      (λ (q : ((w : ℕ) × (w < length sources) × (Edge sources h w × (P h ≤ P w))) → ⊥). inr (λ r. q (r.0, S.within h r.0 r.1, (r.1, r.2))))
      (some_below (λ w. Edge sources h w × (P h ≤ P w)) (λ w. both _ _ (contains_decided (targets sources h) w) (below (P h) (P w))) (length sources))

  pub body_of : (h : ℕ) → Head h → (l : List ℕ) × AreBody sources place h l
  body_of h head = (
    those (Body h) (body_decided h) (length sources),
    λ x. (
      (λ c. (those_only (Body h) (body_decided h) (length sources) x c).1),
      (λ b. those_has (Body h) (body_decided h) (length sources) x (body_in sources order place S O h x (head_of sources order place S O h head) b) b),
    ),
  )

  pub enclosed : (fuel h : ℕ) → P h < fuel → Head h → (A : List ℕ) × Encloses sources place h A
  enclosed zero h lt head = absurd (omega arith)
  enclosed (suc fuel) h lt head = ⊎_elim
      (λ (q : (z : ℕ) × (z < length sources) × (Head z × Body z h × (z ≢ h)) × ((a : ℕ) → a < length sources → Head a × Body a h × (a ≢ h) → P a ≤ P z)).
      let z = q.0 in
      let le = low sources order place S O z h q.2.1 in
      let ne : P z ≢ P h = λ e. q.2.2 (same_head sources order place S O z h q.2.0 head e) in
      let r = enclosed fuel z (omega (arith, le, ne, lt)) q.2.0 in
      (z ∷ r.0, within h z r.0 head (record { head = q.2.0; body = q.2.1; other = q.2.2; latest = λ y hy b no. q.3 y (head_of sources order place S O y hy) (hy, b, no) }) r.1))
      (λ (none : (a : ℕ) → a < length sources → Head a × Body a h × (a ≢ h) → ⊥). (
        [],
        alone h head (λ z hz b. ⊎_elim
            (λ (e : z ≡ h). e)
            (λ (ne : z ≢ h). absurd (none z (head_of sources order place S O z hz) (hz, b, ne)))
            (cases_eq z h)),
      ))
      (greatest P (λ z. Head z × Body z h × (z ≢ h)) (λ z. all_three _ _ _ (head_decided z) (body_decided z h) (differ z h)) (length sources))
