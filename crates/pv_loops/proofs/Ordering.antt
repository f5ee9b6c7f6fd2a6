-- The order of a reduction is an order of the shape.
use Rattle.std.proofs.Common.{◌≡◌, ◌≢◌, ℕ, ◌<◌, ◌≤◌, ◌+◌, ◌*◌, List, [], ◌∷◌, ◌++◌, length, map, reverse, get_or, sym, ◌∙◌, ap, subst, arith, inl, inr, ◌⊎◌, ⊎_elim, Some, None, true, false, eqb-true, slice_get, nat_eq}
use Rattle.pv_loops.proofs.Words.{cases_eq, cases_lt, eqb_tells, Decides-eqb, nat_eq_equiv, eqb, get_or_default, Contains-get_or, slice_get_within, get_or_from_slice_get, IsDistinct-from_apart, length-le_from_distinct_below, le-length_from_below, list_any-from_Contains, Contains-from_any, IsNonDecreasingBy-from_all_adjacent, IsPermutation-sym}
use Rattle.pv_loops.proofs.Words.{Contains-permutation, length_permutation, IsDistinct-IsPermutation, AllPairs-from_IsDistinct, Vec, Contains, AllPairs, IsDistinct, IsNonDecreasingBy, IsPermutation, IsSortedByKey, slice_cmp, is_lt, nat_cmp}
use Rattle.pv_loops.proofs.Words.{Forest, IsShape, IsReversed, IsOrder, MAX_DEPTH, key_at, AreKeys, around, Heads, IsOrdered, IsArranged, IsRanking}
use Rattle.pv_loops.proofs.Bodies.{same}
use Rattle.pv_loops.proofs.Weights.{unit, weigh, positive}
use Rattle.pv_loops.proofs.Keyed.{digits, digits_reverse, not_less}
use Rattle.pv_loops.proofs.Leading.{rows_long, row_headers}
use Rattle.pv_loops.proofs.Listing.{listed_at, listed_read, found_or_not, split_at, split_has}
use Rattle.pv_loops.proofs.Ranking as ranking
use Rattle.pv_loops.proofs.Surrounding.{Surrounds, at_most}

differ : (a b : ℕ) → a ≢ b → eqb a b ≡ false
differ a b ne = ⊎_elim
    (λ (q : (eqb a b ≡ true) × (a ≡ b)). absurd (ne q.1))
    (λ (q : (eqb a b ≡ false) × (a ≢ b)). q.0)
    (eqb_tells a b)

module _ (sources : List (List ℕ)) (order place : List ℕ) (S : IsShape sources) (O : IsOrder sources order place) where
  abbrev P : ℕ → ℕ
  P x = get_or place x 0

  -- each node is listed at its place, and at no other
  here : (x : ℕ) → x < length sources → slice_get order (P x) ≡ Some x
  here x lt = let at = O.place_in x lt in listed_read order (P x) x at (get_or_default order (P x) x 0 at ∙ O.listed x lt)

  place_at : (k x : ℕ) → slice_get order k ≡ Some x → (x < length sources) × (P x ≡ k)
  place_at k x e =
      let lt = slice_get_within order k x e in
      let is : get_or order k 0 ≡ x = get_or_from_slice_get order k x 0 e in
      (subst (λ v. v < length sources) is (O.node_in k lt), sym (ap P is) ∙ O.placed k lt)

  apart : (i j : ℕ) (d : ℕ) → i < j → j < length order → eqb (get_or order i d) (get_or order j d) ≡ false
  apart i j d lt h = differ (get_or order i d) (get_or order j d) (λ e.
      let a = O.placed i (omega arith) in
      let b = O.placed j h in
      let w = ap P (get_or_default order i 0 d (omega arith) ∙ e ∙ get_or_default order j d 0 h) in
      omega (arith, a, b, w))

  -- as many places as nodes
  size : length order ≡ length sources
  size =
      let le = length-le_from_distinct_below order (length sources) (IsDistinct-from_apart eqb order apart) (λ q h. let c : Contains order q = Contains-from_any eqb-true q order h in (place_at c.0 q (listed_read order c.0 q c.1 c.2)).0) in
      let ge = le-length_from_below order (length sources) (λ q lt. list_any-from_Contains nat_eq_equiv q order (let at = O.place_in q lt in subst (λ v. Contains order v) (O.listed q lt) (Contains-get_or order (P q) 0 at))) in
      omega (arith, le, ge)

  distinct : IsDistinct nat_eq order
  distinct = IsDistinct-from_apart eqb order apart

-- the nodes in the order of their keys
module _ (s sources : List (List ℕ)) (order place : List ℕ) (rev : IsReversed s sources) (S : IsShape sources) (O : IsOrder sources order place) (f : Forest) (A : (x : ℕ) → Surrounds sources place x (around f x))
    (homes : length f.home.items ≡ length sources) (moved : IsPermutation order f.order.items)
    (keys : List (Vec ℕ)) (are : AreKeys f.loops.items place f.rows keys) (sorted : IsSortedByKey (key_at keys) (slice_cmp nat_cmp) f.order.items) where
  abbrev Q : ℕ → ℕ
  Q x = get_or place x 0

  few : (x : ℕ) → length (around f x) ≤ MAX_DEPTH
  few x = at_most MAX_DEPTH f.loops.items (get_or f.home.items x None)

  abbrev rank : ℕ → ℕ
  rank = ranking.rank s sources order place rev S O (around f) A MAX_DEPTH few

  is : IsRanking s (around f) rank
  is = ranking.ranking_is s sources order place rev S O (around f) A MAX_DEPTH few

  long : length f.order.items ≡ length order
  long = length_permutation order f.order.items moved

  -- each node stands in the order
  node_at : (k x : ℕ) → slice_get f.order.items k ≡ Some x → x < length sources
  node_at k x e =
      let lt = slice_get_within f.order.items k x e in
      let c = Contains-permutation f.order.items order x (IsPermutation-sym order f.order.items moved) (k, lt, get_or_from_slice_get f.order.items k x x e) in
      (place_at sources order place S O c.0 x (listed_read order c.0 x c.1 c.2)).0

  at_node : (x : ℕ) → x < length sources → (k : ℕ) × (slice_get f.order.items k ≡ Some x)
  at_node x lt =
      let e = here sources order place S O x lt in
      let c = Contains-permutation order f.order.items x moved (Q x, slice_get_within order (Q x) x e, get_or_from_slice_get order (Q x) x x e) in
      (c.0, listed_read f.order.items c.0 x c.1 c.2)

  -- the key of a node: the digits of its rank
  key_is : (x : ℕ) → x < length sources → key_at keys x ≡ digits Q (length order) MAX_DEPTH (x ∷ around f x)
  key_is x lt =
      let low : x < length f.home.items = omega (arith, lt, homes) in
      let rows = rows_long f.loops.items f.home.items f.rows f.outwards in
      are x (omega (arith, low, rows)) ∙ ap (λ (l : List ℕ). reverse (map Q (x ∷ l))) (row_headers f.loops.items f.home.items f.rows f.outwards x low) ∙ sym (digits_reverse Q (length order) MAX_DEPTH (x ∷ around f x))

  rises : IsNonDecreasingBy rank f.order.items
  rises = IsNonDecreasingBy-from_all_adjacent rank f.order.items (λ k d lt.
      let x = get_or f.order.items k d in
      let y = get_or f.order.items (k + 1) d in
      let hx : x < length sources = node_at k x (listed_read f.order.items k x (omega arith) (get_or_default f.order.items k x d (omega arith))) in
      let hy : y < length sources = node_at (k + 1) y (listed_read f.order.items (k + 1) y lt (get_or_default f.order.items (k + 1) y d lt)) in
      not_less Q (length order) MAX_DEPTH (ranking.below s sources order place rev S O (around f) A MAX_DEPTH few) (x ∷ around f x) (y ∷ around f y) (let le = few x in omega arith)
      (subst (λ (l : List ℕ). is_lt (slice_cmp nat_cmp (digits Q (length order) MAX_DEPTH (y ∷ around f y)) l) ≡ false) (key_is x hx)
      (subst (λ (l : List ℕ). is_lt (slice_cmp nat_cmp l (key_at keys x)) ≡ false) (key_is y hy) (sorted k d (omega arith) lt))))

  not_after : (j k a b : ℕ) → slice_get f.order.items j ≡ Some a → slice_get f.order.items k ≡ Some b → j ≤ k → rank a ≤ rank b
  not_after j k a b ea eb le =
      let r = rises j k 0 le (slice_get_within f.order.items k b eb) in
      let p = ap rank (get_or_from_slice_get f.order.items j a 0 ea) in
      let q = ap rank (get_or_from_slice_get f.order.items k b 0 eb) in
      omega (arith, r, p, q)

  earlier : (j k a b : ℕ) → slice_get f.order.items j ≡ Some a → slice_get f.order.items k ≡ Some b → rank a < rank b → j < k
  earlier j k a b ea eb lt = ⊎_elim
      (λ (less : j < k). less)
      (λ (ge : k ≤ j). let r = not_after k j b a eb ea ge in absurd (omega (arith, r, lt)))
      (cases_lt j k)

  once : (j k x : ℕ) → slice_get f.order.items j ≡ Some x → slice_get f.order.items k ≡ Some x → j ≡ k
  once j k x ej ek = ⊎_elim
      (λ (lt : j < k). absurd (twice j k lt ej ek))
      (λ (ge : k ≤ j). ⊎_elim
      (λ (e : j ≡ k). e)
      (λ (ne : j ≢ k). absurd (twice k j (omega arith) ek ej))
      (cases_eq j k))
      (cases_lt j k)
    where
      apart_all : AllPairs (λ x y. x ≢ y) f.order.items
      apart_all = AllPairs-from_IsDistinct Decides-eqb f.order.items (IsDistinct-IsPermutation nat_eq nat_eq_equiv.symm order f.order.items moved (distinct sources order place S O))

      twice : (j k : ℕ) → j < k → slice_get f.order.items j ≡ Some x → slice_get f.order.items k ≡ Some x → ⊥
      twice j k lt ej ek = apart_all j k 0 lt (slice_get_within f.order.items k x ek) (get_or_from_slice_get f.order.items j x 0 ej ∙ sym (get_or_from_slice_get f.order.items k x 0 ek))

  -- the entry has the lowest rank
  entry_rank : (A : List ℕ) → (A ≡ []) ⊎ (A ≡ 0 ∷ []) → weigh Q (length order) MAX_DEPTH A 0 ≡ 0
  entry_rank A (inl e) = subst (λ (l : List ℕ). weigh Q (length order) MAX_DEPTH l 0 ≡ 0) (sym e) (let z = ap (λ v. v * unit Q (length order) MAX_DEPTH 0) O.first in omega (arith, z))
  entry_rank A (inr e) = subst (λ (l : List ℕ). weigh Q (length order) MAX_DEPTH l 0 ≡ 0) (sym e)
      (let z = ap (λ v. v * unit Q (length order) MAX_DEPTH 0) O.first in let w = ap (λ v. v * unit Q (length order) MAX_DEPTH 1) O.first in omega (arith, z, w))

  entry_first : slice_get f.order.items 0 ≡ Some 0
  entry_first =
      let k = at_node 0 S.entry in
      let y = listed_at f.order.items 0 (let lt = slice_get_within f.order.items k.0 0 k.1 in omega (arith, lt)) in
      let low = not_after 0 k.0 y.0 0 y.1 k.1 (omega arith) in
      let zero_is = entry_rank (around f 0) is.first in ⊎_elim
      (λ (lt : 0 < Q y.0). let more = positive Q (length order) MAX_DEPTH (ranking.below s sources order place rev S O (around f) A MAX_DEPTH few) (around f y.0) y.0 lt in absurd (omega (arith, low, zero_is, more)))
      (λ (le : Q y.0 ≤ 0). y.1 ∙ ap Some (same sources order place S O y.0 0 (node_at 0 y.0 y.1) S.entry (omega (arith, le, O.first))))
      (cases_lt 0 (Q y.0))

  pub ordered_is : IsOrdered s f
  ordered_is = record {
    size = long ∙ size sources order place S O ∙ rev.size;
    nodes = λ k x e. let lt = node_at k x e in omega (arith, lt, rev.size);
    each = λ x lt. at_node x (omega (arith, lt, rev.size));
    once = once;
    entry = entry_first;
    forward = λ j k a b ea eb e. let q = is.edges a b e in ⊎_elim
        (λ (back : (around f b ≡ q.1) × Heads q.1 b). inr (split_has (around f a) q.0 b back.1.0 (q.2 ∙ ap (λ (l : List ℕ). q.0 ++ l) back.1.1)))
        (λ (on : (rank a < rank b) × (b ≢ 0) × (((around f b ≡ q.1) × (Heads q.1 b → ⊥)) ⊎ (around f b ≡ b ∷ q.1))). inl (earlier j k a b ea eb on.0))
        q.3;
  }

  pub arranged_is : IsArranged f
  arranged_is = record {
    headers = λ j k h x eh ex c.
        let q = split_at (around f x) h c in
        let le = (is.headers x h q.0 q.1 q.2).1 in ⊎_elim
        (λ (lt : k < j).
        let ge = not_after k j x h ex eh (omega arith) in
        let one = ranking.one_rank s sources order place rev S O (around f) A MAX_DEPTH few h x (node_at j h eh) (node_at k x ex) (omega (arith, le, ge)) in
        let e = once j k x (eh ∙ ap Some one) ex in
        absurd (omega (arith, lt, e)))
        (λ (ge : j ≤ k). ge)
        (cases_lt k j);
    together = λ i j k a b c h ea eb ec lt less ca cc. ⊎_elim
        (λ (q : (G : List ℕ) × (B : List ℕ) × (around f b ≡ G ++ h ∷ B)). split_has (around f b) q.0 h q.1 q.2)
        (λ (not_in : Contains (around f b) h → ⊥).
        let p = split_at (around f a) h ca in
        let q = split_at (around f c) h cc in
        let own = (is.headers a h p.0 p.1 p.2).0 in
        let at_c : around f c ≡ q.0 ++ h ∷ p.1 = q.2 ∙ ap (λ (l : List ℕ). q.0 ++ l) (sym (is.headers c h q.0 q.1 q.2).0 ∙ own) in
        let up = not_after i j a b ea eb (omega arith) in
        let on = not_after j k b c eb ec (omega arith) in ⊎_elim
        (λ (low : (x : ℕ) (G : List ℕ) → around f x ≡ G ++ h ∷ p.1 → rank b < rank x). let z = low a p.0 p.2 in absurd (omega (arith, z, up)))
        (λ (high : (x : ℕ) (G : List ℕ) → around f x ≡ G ++ h ∷ p.1 → rank x < rank b). let z = high c q.0 at_c in absurd (omega (arith, z, on)))
        (ranking.beside s sources order place rev S O (around f) A MAX_DEPTH few h p.1 own b (node_at j b eb) (λ Y e. not_in (split_has (around f b) Y h p.1 e))))
        (found_or_not (around f b) h);
  }
