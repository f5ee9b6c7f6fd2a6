-- The nodes are ranked by the places of the headers around them, the outermost first, and then their own.
use Rattle.std.proofs.Common.{◌≡◌, ◌≢◌, ℕ, zero, suc, ◌<◌, ◌≤◌, ◌+◌, ◌^◌, List, [], ◌∷◌, ◌++◌, length, get_or, refl, sym, ◌∙◌, ap, subst, arith, inl, inr, ◌⊎◌, ⊎_elim, append-nil, append_assoc}
use Rattle.pv_loops.proofs.Words.{cases_eq, cases_lt, get_or_past, Edge, IsShape, IsReversed, IsOrder, IsHead, Reaches, back, before, InBody, MAX_DEPTH, Encloses, alone, within, Heads, IsAlong, LeadsBack, turns, passes, IsRanking}
use Rattle.pv_loops.proofs.Grouping.{source_within}
use Rattle.pv_loops.proofs.Bodies.{same, head_of, body_in, body_zero, closed}
use Rattle.pv_loops.proofs.Listing.{rest, last_of, Fork, fork, fork_back}
use Rattle.pv_loops.proofs.Nesting.{low, same_head, same_around, enclosed_head}
use Rattle.pv_loops.proofs.Surrounding.{Surrounds, found_in, around_node}
use Rattle.pv_loops.proofs.Weights.{weight, weigh, lower, less, lower_beside, not_above, heavier, below_top}

module _ (s sources : List (List ℕ)) (order place : List ℕ) (rev : IsReversed s sources) (S : IsShape sources) (O : IsOrder sources order place)
    (around : ℕ → List ℕ) (surrounds : (x : ℕ) → Surrounds sources place x (around x)) (deepest : ℕ) (shallow : (x : ℕ) → length (around x) ≤ deepest) where
  abbrev P : ℕ → ℕ
  P x = get_or place x 0

  abbrev Head : ℕ → Type 0
  Head h = IsHead sources place h

  abbrev Body : ℕ → ℕ → Type 0
  Body h x = InBody sources place h x

  node : (h : ℕ) → Head h → h < length sources
  node h head = head_of sources order place S O h head

  -- places are below the number of nodes
  pub below : (x : ℕ) → P x < length order
  below x = ⊎_elim
      (λ (lt : x < length sources). O.place_in x lt)
      (λ (ge : length sources ≤ x). let e = get_or_past place x 0 (omega (arith, ge, O.places)) in let first = O.place_in 0 S.entry in omega (arith, e, first))
      (cases_lt x (length sources))

  abbrev pub rank : ℕ → ℕ
  rank x = weigh P (length order) deepest (around x) x

  pub in_top : (x : ℕ) → rank x < length order ^ (deepest + 1)
  in_top x = below_top P (length order) deepest below (around x) x (shallow x)

  -- a header around a node has it in its body, and its place isn't later
  around_one : (x : ℕ) (G : List ℕ) (z : ℕ) (B : List ℕ) → around x ≡ G ++ z ∷ B → Encloses sources place z B × Body z x × (P z ≤ P x)
  around_one x G z B e = let q = around_node sources order place S O x (around x) (surrounds x) G z B e in (q.0, q.1, low sources order place S O z x q.1)

  -- the headers around a header
  own : (h : ℕ) (B : List ℕ) → Encloses sources place h B → around h ≡ h ∷ B
  own h B enc = go (around h) (surrounds h)
    where
      head : Head h
      head = enclosed_head sources order place S O h B enc

      go : (A : List ℕ) → Surrounds sources place h A → A ≡ h ∷ B
      go [] N = absurd (N h head (inl refl))
      go (g ∷ A) N =
          let hg = enclosed_head sources order place S O g A N.0 in
          let ge = N.2 h head (inl refl) in
          let le = low sources order place S O g h N.1 in
          let e : g ≡ h = same_head sources order place S O g h hg head (omega (arith, ge, le)) in
          ap (λ v. v ∷ A) e ∙ ap (λ (l : List ℕ). h ∷ l) (same_around sources order place S O h A B (subst (λ v. Encloses sources place v A) e N.0) enc)

  -- where a header with these headers around it has x in its body
  around_body : (h : ℕ) (B : List ℕ) → Encloses sources place h B → (x : ℕ) → Body h x → (G : List ℕ) × (around x ≡ G ++ h ∷ B)
  around_body h B enc x b =
      let q = found_in sources order place S O x (around x) (surrounds x) h (enclosed_head sources order place S O h B enc) b in
      (q.0, q.2 ∙ ap (λ (l : List ℕ). q.0 ++ h ∷ l) (same_around sources order place S O h q.1 B q.3 enc))

  -- from a node of a body its header is reached inside the body
  module _ (h : ℕ) (B : List ℕ) (enc : Encloses sources place h B) where
    leads : (x : ℕ) → Reaches sources place h x → LeadsBack s around (h ∷ B) h x
    leads _ (back x e le) = turns x ((rev.edges x h).0 e)
    leads _ (before y x r ne e) = let q = around_body h B enc y (inr r) in passes x y q.0 ((rev.edges x y).0 e) q.1 (leads y r)

    climbs : (n x : ℕ) → P x < n → Body h x → LeadsBack s around (h ∷ B) h x → LeadsBack s around (h ∷ B) h h
    climbs zero x lt b l = absurd (omega arith)
    climbs (suc n) x lt b l = ⊎_elim
        (λ (e : x ≡ h). subst (λ v. LeadsBack s around (h ∷ B) h v) e l)
        (λ (ne : x ≢ h).
        let hh = node h (enclosed_head sources order place S O h B enc) in
        let y = O.fed x (body_in sources order place S O h x hh b) (λ z. ne (z ∙ sym (body_zero sources order place S O h hh (subst (λ v. Body h v) z b)))) in
        let q = around_body h B enc x b in
        climbs n y.0 (let less = y.2 in omega (arith, less, lt)) (closed sources order place S O h x y.0 b ne y.1) (passes y.0 x q.0 ((rev.edges y.0 x).0 y.1) q.1 l))
        (cases_eq x h)

  loops_back : (h : ℕ) (B : List ℕ) → around h ≡ h ∷ B → LeadsBack s around (h ∷ B) h h
  loops_back h B e =
      let enc = (around_one h [] h B e).0 in
      let head = enclosed_head sources order place S O h B enc in
      let r = back head.0 head.1 head.2 in
      climbs h B enc (suc (P head.0)) head.0 (omega arith) (inr r) (leads h B enc head.0 r)

  first_is : (A : List ℕ) → Surrounds sources place 0 A → (A ≡ []) ⊎ (A ≡ 0 ∷ [])
  first_is [] N = inl refl
  first_is (h ∷ A) N = inr (ap (λ v. v ∷ A) at ∙ ap (λ (l : List ℕ). 0 ∷ l) (none h A N.0 at))
    where
      zero_is : (z : ℕ) → Head z → Body z 0 → z ≡ 0
      zero_is z hz b = body_zero sources order place S O z (node z hz) b

      at : h ≡ 0
      at = zero_is h (enclosed_head sources order place S O h A N.0) N.1

      none : (h : ℕ) (A : List ℕ) → Encloses sources place h A → h ≡ 0 → A ≡ []
      none _ _ (alone h head sole) e = refl
      none _ _ (within h o A head next enc) e = absurd (next.other (zero_is o next.head (subst (λ v. Body o v) e next.body) ∙ sym e))

  -- the rank of a node inside a header, and of one beside the header whose place is later
  rank_inner : (c : ℕ) (I : List ℕ) (z : ℕ) (D : List ℕ) (b : ℕ) → around c ≡ I ++ z ∷ D → P z < P b → rank c < weigh P (length order) deepest D b
  rank_inner c I z D b e lt = subst (λ (l : List ℕ). weigh P (length order) deepest l c < weigh P (length order) deepest D b) (sym e)
      (lower P (length order) deepest below I z D c b (subst (λ (l : List ℕ). length l ≤ deepest) e (shallow c)) lt)

  -- .. of a node inside some headers more
  rank_lower : (C D : List ℕ) (a b : ℕ) → around a ≡ C ++ D → P a < P b → rank a < weigh P (length order) deepest D b
  rank_lower C D a b e lt = ⊎_elim
      (λ (none : C ≡ []). let w : around a ≡ D = e ∙ ap (λ (l : List ℕ). l ++ D) none in subst (λ (l : List ℕ). weigh P (length order) deepest l a < weigh P (length order) deepest D b) (sym w) (lower_beside P (length order) deepest below D a b lt))
      (λ (q : (I : List ℕ) × (z : ℕ) × (C ≡ I ++ z ∷ [])).
      let w : around a ≡ q.0 ++ q.1 ∷ D = e ∙ ap (λ (l : List ℕ). l ++ D) q.2 ∙ append_assoc q.0 (q.1 ∷ []) D in
      let le = (around_one a q.0 q.1 D w).2 in
      rank_inner a q.0 q.1 D b w (omega (arith, le, lt)))
      (last_of C)

  -- the rank of a node that is beside these headers, or the header of one more loop
  rank_beside : (D : List ℕ) (b : ℕ) → (around b ≡ D) ⊎ (around b ≡ b ∷ D) → weigh P (length order) deepest D b ≤ rank b
  rank_beside D b (inl e) = subst (λ (l : List ℕ). weigh P (length order) deepest D b ≤ weigh P (length order) deepest l b) (sym e) (omega arith)
  rank_beside D b (inr e) = subst (λ (l : List ℕ). weigh P (length order) deepest D b ≤ weigh P (length order) deepest l b) (sym e) (omega arith)

  -- a header has the least rank in its loop
  header_least : (x h : ℕ) (G B : List ℕ) → around x ≡ G ++ h ∷ B → around h ≡ h ∷ B → rank h ≤ rank x
  header_least x h G B e at = subst (λ (l : List ℕ). weigh P (length order) deepest l h ≤ rank x) (sym at) (subst (λ (l : List ℕ). weigh P (length order) deepest (h ∷ B) h ≤ weigh P (length order) deepest l x) (sym e) (⊎_elim
      (λ (none : G ≡ []). subst (λ (l : List ℕ). weigh P (length order) deepest (h ∷ B) h ≤ weigh P (length order) deepest (l ++ h ∷ B) x) (sym none) (not_above P (length order) deepest below (h ∷ B) h x (around_one x G h B e).2))
      (λ (q : (I : List ℕ) × (z : ℕ) × (G ≡ I ++ z ∷ [])).
      let w : G ++ h ∷ B ≡ q.0 ++ q.1 ∷ h ∷ B = ap (λ (l : List ℕ). l ++ h ∷ B) q.2 ∙ append_assoc q.0 (q.1 ∷ []) (h ∷ B) in
      let inner = around_one x q.0 q.1 (h ∷ B) (e ∙ w) in
      let le = (around_one q.1 (q.1 ∷ []) h B (own q.1 (h ∷ B) inner.0)).2 in
      let least = not_above P (length order) deepest below (h ∷ B) h q.1 le in
      let more = heavier P (length order) deepest below q.0 (q.1 ∷ h ∷ B) in
      subst (λ (l : List ℕ). weigh P (length order) deepest (h ∷ B) h ≤ weigh P (length order) deepest l x) (sym w) (omega (arith, least, more)))
      (last_of G)))

  -- of the loops around b all but that of b itself are around a, where there is an edge from a to b
  abbrev AroundBoth : ℕ → ℕ → Type 0
  AroundBoth a b = (C : List ℕ) × (D : List ℕ) × (around a ≡ C ++ D) × (((around b ≡ D) × (Heads D b → ⊥)) ⊎ (around b ≡ b ∷ D))

  around_source : (a b : ℕ) (A : List ℕ) → Encloses sources place b A → Edge s a b → (C : List ℕ) × (around a ≡ C ++ A)
  around_source a _ _ (alone b head sole) e = (around a, sym (append-nil (around a)))
  around_source a _ _ (within b o A head next enc) e = around_body o A enc a (closed sources order place S O o b a next.body (λ w. next.other (sym w)) ((rev.edges a b).1 e))

  both_around : (a b : ℕ) → Edge s a b → (A : List ℕ) → around b ≡ A → Surrounds sources place b A → AroundBoth a b
  both_around a b e [] is N = (around a, [], sym (append-nil (around a)), inl (is, λ q. absurd (omega (arith, ap length q.1))))
  both_around a b e (g ∷ A) is N = ⊎_elim
      (λ (own_loop : g ≡ b). let q = around_source a b A (subst (λ v. Encloses sources place v A) own_loop N.0) e in (q.0, A, q.1, inr (is ∙ ap (λ v. v ∷ A) own_loop)))
      (λ (other : g ≢ b).
      let q = around_body g A N.0 a (closed sources order place S O g b a N.1 (λ w. other (sym w)) ((rev.edges a b).1 e)) in
      (q.0, g ∷ A, q.1, inl (is, λ w. other (ap (λ (l : List ℕ). get_or l 0 0) w.1))))
      (cases_eq g b)

  on : (a b : ℕ) → Edge s a b → AroundBoth a b
  on a b e = both_around a b e (around b) refl (surrounds b)

  -- without what is said of headers
  either : (D : List ℕ) (b : ℕ) → ((around b ≡ D) × (Heads D b → ⊥)) ⊎ (around b ≡ b ∷ D) → (around b ≡ D) ⊎ (around b ≡ b ∷ D)
  either D b (inl q) = inl q.0
  either D b (inr q) = inr q

  along : (a b : ℕ) → Edge s a b → IsAlong around rank a b
  along a b e = ⊎_elim
      (λ (lt : P a < P b). let q = on a b e in
      let high = rank_lower q.0 q.1 a b q.2 lt in
      let up = rank_beside q.1 b (either q.1 b q.3) in
      (q.0, q.1, q.2, inr (omega (arith, high, up), (λ z. let w = ap P z in let first = O.first in omega (arith, w, first, lt)), q.3)))
      (λ (ge : P b ≤ P a).
      let back_edge : Edge sources b a = (rev.edges a b).1 e in
      let q = found_in sources order place S O a (around a) (surrounds a) b (a, back_edge, ge) (inr (back a back_edge ge)) in
      (q.0, b ∷ q.1, q.2, inl (own b q.1 q.3, (q.1, refl))))
      (cases_lt (P a) (P b))

  -- ---- nodes of a loop and others

  -- no loop around a node ends in the node itself and all the headers around it
  never_own : (x y : ℕ) (Y : List ℕ) → around x ≡ Y ++ y ∷ around y → ⊥
  never_own x y Y e = let q = own y (around y) (around_one x Y y (around y) e).0 in absurd (omega (arith, ap length q))

  header_in : (x : ℕ) (G : List ℕ) (u : ℕ) (D : List ℕ) → around x ≡ G ++ u ∷ D → u < length sources
  header_in x G u D e = node u (enclosed_head sources order place S O u D (around_one x G u D e).0)

  row_in : (x : ℕ) → x < length sources → (G : List ℕ) (u : ℕ) (D : List ℕ) → x ∷ around x ≡ G ++ u ∷ D → u < length sources
  row_in x hx [] u D e = subst (λ v. v < length sources) (ap (λ (l : List ℕ). get_or l 0 0) e) hx
  row_in x hx (g ∷ G) u D e = header_in x G u D (ap rest e)

  abbrev W : List ℕ → ℕ
  W = weight P (length order) deepest

  -- where two rows fork, the one with the earlier node weighs less, and so inside more headers
  under : (us vs X : List ℕ) (k : Fork us vs) → length us ≤ deepest + 1 → P k.u < P k.v → W us < W (X ++ vs)
  under us vs X k le lt =
      let a = less P (length order) deepest below k.left k.u k.v k.common (omega (arith, le, ap length k.us_is)) lt in
      let b = heavier P (length order) deepest below (X ++ k.right) (k.v ∷ k.common) in
      let p : W us ≡ W (k.left ++ k.u ∷ k.common) = ap W k.us_is in
      let q : W ((X ++ k.right) ++ k.v ∷ k.common) ≡ W (X ++ vs) = ap W (append_assoc X k.right (k.v ∷ k.common) ∙ ap (λ (l : List ℕ). X ++ l) (sym k.vs_is)) in
      omega (arith, a, b, p, q)

  apart : (us vs : List ℕ) (k : Fork us vs) → k.u < length sources → k.v < length sources → (P k.u < P k.v) ⊎ (P k.v < P k.u)
  apart us vs k hu hv = ⊎_elim
      (λ (lt : P k.u < P k.v). inl lt)
      (λ (ge : P k.v ≤ P k.u). inr (⊎_elim
      (λ (e : P k.u ≡ P k.v). absurd (k.differ (same sources order place S O k.u k.v hu hv e)))
      (λ (ne : P k.u ≢ P k.v). let lt : P k.v < P k.u = omega arith in lt)
      (cases_eq (P k.u) (P k.v))))
      (cases_lt (P k.u) (P k.v))

  -- no two nodes have one rank
  pub one_rank : (x y : ℕ) → x < length sources → y < length sources → rank x ≡ rank y → x ≡ y
  one_rank x y hx hy e = ⊎_elim
      (λ (q : (Y : List ℕ) × (x ∷ around x ≡ Y ++ y ∷ around y)). inside_out x y q.0 q.1)
      (λ (q : ((Y : List ℕ) × (y ∷ around y ≡ Y ++ x ∷ around x)) ⊎ Fork (x ∷ around x) (y ∷ around y)). ⊎_elim
      (λ (q : (Y : List ℕ) × (y ∷ around y ≡ Y ++ x ∷ around x)). sym (inside_out y x q.0 q.1))
      (λ (k : Fork (x ∷ around x) (y ∷ around y)). ⊎_elim
      (λ (lt : P k.u < P k.v). let less = under (x ∷ around x) (y ∷ around y) [] k (let le = shallow x in omega arith) lt in absurd (omega (arith, less, e)))
      (λ (lt : P k.v < P k.u). let less = under (y ∷ around y) (x ∷ around x) [] (fork_back (x ∷ around x) (y ∷ around y) [] k) (let le = shallow y in omega arith) lt in absurd (omega (arith, less, e)))
      (apart (x ∷ around x) (y ∷ around y) k (row_in x hx k.left k.u k.common k.us_is) (row_in y hy k.right k.v k.common k.vs_is)))
      q)
      (fork (x ∷ around x) (y ∷ around y))
    where
      inside_out : (x y : ℕ) (Y : List ℕ) → x ∷ around x ≡ Y ++ y ∷ around y → x ≡ y
      inside_out x y [] e = ap (λ (l : List ℕ). get_or l 0 0) e
      inside_out x y (g ∷ Y) e = absurd (never_own x y Y (ap rest e))

  -- a node outside a loop has a lower rank than all of its nodes, or a higher one
  abbrev pub IsBeside : ℕ → List ℕ → ℕ → Type 0
  IsBeside h B b = ((x : ℕ) (G : List ℕ) → around x ≡ G ++ h ∷ B → rank b < rank x) ⊎ ((x : ℕ) (G : List ℕ) → around x ≡ G ++ h ∷ B → rank x < rank b)

  pub beside : (h : ℕ) (B : List ℕ) → around h ≡ h ∷ B → (b : ℕ) → b < length sources → ((Y : List ℕ) → around b ≢ Y ++ h ∷ B) → IsBeside h B b
  beside h B e b hb out = ⊎_elim
      (λ (q : (Y : List ℕ) × (b ∷ around b ≡ Y ++ h ∷ B)). absurd (not_in q.0 q.1))
      (λ (q : ((Y : List ℕ) × (h ∷ B ≡ Y ++ b ∷ around b)) ⊎ Fork (b ∷ around b) (h ∷ B)). ⊎_elim
      (λ (q : (Y : List ℕ) × (h ∷ B ≡ Y ++ b ∷ around b)). absurd (never_own h b q.0 (e ∙ q.1)))
      (λ (k : Fork (b ∷ around b) (h ∷ B)). ⊎_elim
      (λ (lt : P k.u < P k.v). inl (λ x G at. let less = under (b ∷ around b) (h ∷ B) (x ∷ G) k (let le = shallow b in omega arith) lt in subst (λ (l : List ℕ). rank b < W (x ∷ l)) (sym at) less))
      (λ (lt : P k.v < P k.u). inr (λ x G at. let less = under (x ∷ G ++ h ∷ B) (b ∷ around b) [] (fork_back (b ∷ around b) (h ∷ B) (x ∷ G) k) (let le = shallow x in omega (arith, le, ap length at)) lt in subst (λ (l : List ℕ). W (x ∷ l) < rank b) (sym at) less))
      (apart (b ∷ around b) (h ∷ B) k (row_in b hb k.left k.u k.common k.us_is) (header_in h k.right k.v k.common (e ∙ k.vs_is))))
      q)
      (fork (b ∷ around b) (h ∷ B))
    where
      not_in : (Y : List ℕ) → b ∷ around b ≡ Y ++ h ∷ B → ⊥
      not_in [] q =
          let same : b ≡ h = ap (λ (l : List ℕ). get_or l 0 0) q in
          let w : B ≡ h ∷ B = sym (ap rest q) ∙ ap around same ∙ e in
          absurd (omega (arith, ap length w))
      not_in (g ∷ Y) q = out Y (ap rest q)

  keeps_together : (h : ℕ) (B G X : List ℕ) (a c b : ℕ) → around a ≡ G ++ h ∷ B → around c ≡ X ++ h ∷ B → Edge s a b → rank a < rank b → ((Y : List ℕ) → around b ≢ Y ++ h ∷ B) → rank c < rank b
  keeps_together h B G X a c b ea ec e lt out = ⊎_elim
      (λ (low : (x : ℕ) (G : List ℕ) → around x ≡ G ++ h ∷ B → rank b < rank x). let less = low a G ea in absurd (omega (arith, less, lt)))
      (λ (high : (x : ℕ) (G : List ℕ) → around x ≡ G ++ h ∷ B → rank x < rank b). high c X ec)
      (beside h B (own h B (around_one a G h B ea).0) b (source_within sources b a ((rev.edges a b).1 e)) out)

  pub ranking_is : IsRanking s around rank
  ranking_is = record {
    edges = along;
    headers = λ x h G B e. let q = around_one x G h B e in let at = own h B q.0 in (at, header_least x h G B e at);
    loops = loops_back;
    first = first_is (around 0) (surrounds 0);
    compact = keeps_together;
  }

-- where the headers around the nodes are known
pub ranking_from : (s sources : List (List ℕ)) (order place : List ℕ) → IsReversed s sources → IsShape sources → IsOrder sources order place → (around : ℕ → List ℕ) → ((x : ℕ) → Surrounds sources place x (around x)) → ((x : ℕ) → length (around x) ≤ MAX_DEPTH)
    → (rank : ℕ → ℕ) × (top : ℕ) × ((x : ℕ) → rank x < top) × IsRanking s around rank × ((x : ℕ) → length (around x) ≤ MAX_DEPTH)
ranking_from s sources order place rev S O around A few = (
  rank s sources order place rev S O around A MAX_DEPTH few,
  length order ^ (MAX_DEPTH + 1),
  in_top s sources order place rev S O around A MAX_DEPTH few,
  ranking_is s sources order place rev S O around A MAX_DEPTH few,
  few,
)
