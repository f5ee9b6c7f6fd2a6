-- Bodies of headers are the loops of a shape.
use Rattle.std.proofs.Common.{◌≡◌, ◌≢◌, ℕ, zero, suc, ◌<◌, ◌≤◌, ◌-◌, List, length, get_or, refl, sym, ◌∙◌, ap, subst, arith, inl, inr, ⊎_elim}
use Rattle.pv_loops.proofs.Words.{cases_eq, cases_lt, get_or_default, Contains-get_or, Contains, Edge, IsReversed, IsShape, Region, Whole, Inside, EdgeOf, Way, edge, more, IsConnected, IsLargest, Enters, IsHeader, outermost, IsOrder, IsHead, Reaches, back, before, InBody, AreBody, OutermostBodies, InnerBodies}
use Rattle.pv_loops.specs.Loops.{inner}
use Rattle.pv_loops.proofs.Grouping.{source_within}

-- the edges of a region are edges of the shape
edge_of : (s : List (List ℕ)) (r : Region) (a b : ℕ) → EdgeOf s r a b → Edge s a b
edge_of s Whole a b e = e
edge_of s (Inside members header) a b e = e.0

way_then : (s : List (List ℕ)) (r : Region) (l : List ℕ) (a b c : ℕ) → Way s r l a b → EdgeOf s r b c → Contains l b → Contains l c → Way s r l a c
way_then s r l _ _ c (edge a b e ca cb) f cb' cc' = more a b c e ca (edge b c f cb cc')
way_then s r l _ _ c (more a m b e ca w) f cb' cc' = more a m c e ca (way_then s r l m b c w f cb' cc')

way_append : (s : List (List ℕ)) (r : Region) (l : List ℕ) (a b c : ℕ) → Way s r l a b → Way s r l b c → Way s r l a c
way_append s r l _ _ c (edge a b e ca cb) w = more a b c e ca w
way_append s r l _ _ c (more a m b e ca v) w = more a m c e ca (way_append s r l m b c v w)

-- the last edge of a way
pub way_last : (s : List (List ℕ)) (r : Region) (l : List ℕ) (a b : ℕ) → Way s r l a b → (w : ℕ) × EdgeOf s r w b × Contains l w
way_last s r l _ _ (edge a b e ca cb) = (a, e, ca)
way_last s r l _ _ (more a m b e ca v) = way_last s r l m b v

-- a node of a list with the least value
least_of : (f : ℕ → ℕ) (l : List ℕ) (i : ℕ) → i < length l → (z : ℕ) × Contains l z × ((k : ℕ) → k ≤ i → f z ≤ f (get_or l k 0))
least_of f l zero h = (get_or l 0 0, Contains-get_or l 0 0 h, λ k le. let e : k ≡ 0 = omega arith in let q = ap (λ v. f (get_or l v 0)) e in omega (arith, q))
least_of f l (suc i) h =
    let q = least_of f l i (omega arith) in ⊎_elim
    (λ (lt : f (get_or l (suc i) 0) < f q.0). (
      get_or l (suc i) 0,
      Contains-get_or l (suc i) 0 h,
      λ k le. ⊎_elim
          (λ (e : k ≡ suc i). let r = ap (λ v. f (get_or l v 0)) e in omega (arith, r))
          (λ (ne : k ≢ suc i). let r = q.2 k (omega arith) in omega (arith, r, lt))
          (cases_eq k (suc i)),
    ))
    (λ (ge : f q.0 ≤ f (get_or l (suc i) 0)). (
      q.0,
      q.1,
      λ k le. ⊎_elim
          (λ (e : k ≡ suc i). let r = ap (λ v. f (get_or l v 0)) e in omega (arith, r, ge))
          (λ (ne : k ≢ suc i). q.2 k (omega arith))
          (cases_eq k (suc i)),
    ))
    (cases_lt (f (get_or l (suc i) 0)) (f q.0))

least : (f : ℕ → ℕ) (l : List ℕ) (a : ℕ) → Contains l a → (z : ℕ) × Contains l z × ((b : ℕ) → Contains l b → f z ≤ f b)
least f l a c =
    let some : 0 < length l = (let lt = c.1 in omega (arith, lt)) in
    let q = least_of f l (length l - 1) (omega arith) in
    (q.0, q.1, λ b d. let r = q.2 d.0 (let lt = d.1 in omega (arith, lt)) in subst (λ v. f q.0 ≤ f v) (get_or_default l d.0 0 b d.1 ∙ d.2) r)

module _ (sources : List (List ℕ)) (order place : List ℕ) (S : IsShape sources) (O : IsOrder sources order place) where
  abbrev P : ℕ → ℕ
  P x = get_or place x 0

  abbrev Body : ℕ → ℕ → Type 0
  Body h x = InBody sources place h x

  pub same : (x y : ℕ) → x < length sources → y < length sources → P x ≡ P y → x ≡ y
  same x y hx hy e = sym (O.listed x hx) ∙ ap (λ v. get_or order v 0) e ∙ O.listed y hy

  reach_in : (h x : ℕ) → Reaches sources place h x → x < length sources
  reach_in h _ (back x e le) = S.within h x e
  reach_in h _ (before y x r ne e) = S.within y x e

  head_in : (h x : ℕ) → Reaches sources place h x → h < length sources
  head_in h _ (back x e le) = source_within sources h x e
  head_in h _ (before y x r ne e) = head_in h y r

  -- no edge comes from before h to a node after h up to x
  guarded : (h x : ℕ) → Reaches sources place h x → (P h ≤ P x) × ((y x' : ℕ) → Edge sources x' y → P h < P x' → P x' ≤ P x → P h ≤ P y)
  guarded h _ (back x e le) = (le, λ y x' e' lt le'. O.spans x h y x' e e' le lt le')
  guarded h _ (before v x r ne e) =
      let g = guarded h v r in
      let away : P h ≢ P v = λ q. ne (sym (same h v (head_in h v r) (reach_in h v r) q)) in
      let low : P h ≤ P v = g.0 in
      let le : P h ≤ P x = g.1 x v e (omega arith) (omega arith) in (
        le,
        λ y x' e' lt le'. ⊎_elim
            (λ (past : P v < P x'). let q : P v ≤ P y = O.spans x v y x' e e' (omega arith) past le' in omega arith)
            (λ (up_to : P x' ≤ P v). g.1 y x' e' lt up_to)
            (cases_lt (P v) (P x')),
      )

  pub body_low : (h x : ℕ) → Body h x → P h ≤ P x
  body_low h x (inl e) = let q = ap P e in omega (arith, q)
  body_low h x (inr r) = (guarded h x r).0

  pub body_in : (h x : ℕ) → h < length sources → Body h x → x < length sources
  body_in h x hh (inl e) = omega (arith, e)
  body_in h x hh (inr r) = reach_in h x r

  pub body_zero : (h : ℕ) → h < length sources → Body h 0 → h ≡ 0
  body_zero h hh b = let low = body_low h 0 b in same h 0 hh S.entry (let f = O.first in omega (arith, low, f))

  pub closed : (h x y : ℕ) → Body h x → x ≢ h → Edge sources x y → Body h y
  closed h x y (inl e) ne f = absurd (ne e)
  closed h x y (inr r) ne f = inr (before x y r ne f)

  pub head_of : (h : ℕ) → IsHead sources place h → h < length sources
  head_of h (w, e, le) = source_within sources h w e

  -- two bodies with a node in common lie one in the other
  pub meet : (f a b x : ℕ) → P x < f → a < length sources → b < length sources → Body a x → Body b x → P a ≤ P b → Body a b
  meet zero a b x lt ha hb ba bb le = absurd (omega arith)
  meet (suc f) a b x lt ha hb ba bb le = ⊎_elim
      (λ (e : x ≡ b). subst (λ v. Body a v) e ba)
      (λ (ne : x ≢ b). ⊎_elim
      (λ (e : x ≡ a). let low = body_low b x bb in let q = ap P e in inl (sym (same a b ha hb (omega (arith, q, low, le)))))
      (λ (away : x ≢ a).
      let hx : x < length sources = body_in a x ha ba in
      let not_zero : x ≢ 0 = λ z. ne (z ∙ sym (body_zero b hb (subst (λ v. Body b v) z bb))) in
      let y = O.fed x hx not_zero in
      let less = y.2 in
      meet f a b y.0 (omega (arith, less, lt)) ha hb (closed a x y.0 ba away y.1) (closed b x y.0 bb ne y.1) le)
      (cases_eq x a))
      (cases_eq x b)

  pub inside_body : (a b y : ℕ) → a < length sources → b < length sources → Body a b → P a ≤ P b → Body b y → Body a y
  inside_body a b y ha hb ab le (inl e) = subst (λ v. Body a v) (sym e) ab
  inside_body a b y ha hb ab le (inr r) = ⊎_elim
      (λ (e : b ≡ a). subst (λ v. Body v y) e (inr r))
      (λ (ne : b ≢ a). go y r ne)
      (cases_eq b a)
    where
      go : (y : ℕ) → Reaches sources place b y → b ≢ a → Body a y
      go _ (back y e le') ne = closed a b y ab ne e
      go _ (before x y r' away e) ne = closed a x y (go x r' ne) (λ q. let low = (guarded b x r').0 in let p = ap P q in away (q ∙ sym (same b a hb ha (omega (arith, low, p, le))))) e

  module _ (s : List (List ℕ)) (rev : IsReversed s sources) where
    -- inside its own body a header is reached from each node and reaches each, by edges of any region that has the edges of the body
    module _ (r : Region) (l : List ℕ) (h : ℕ) (in_sources : h < length sources) (are : AreBody sources place h l) (edges : (a b : ℕ) → Edge s a b → Contains l a → Contains l b → EdgeOf s r a b) where
      up : (x : ℕ) → Reaches sources place h x → Way s r l x h
      up _ (back x e le) = let cx = (are x).1 (inr (back x e le)) in let ch = (are h).1 (inl refl) in edge x h (edges x h ((rev.edges x h).0 e) cx ch) cx ch
      up _ (before y x q ne e) = let cx = (are x).1 (inr (before y x q ne e)) in let cy = (are y).1 (inr q) in more x y h (edges x y ((rev.edges x y).0 e) cx cy) cx (up y q)

      down : (f x : ℕ) → P x < f → Body h x → x ≢ h → Way s r l h x
      down zero x lt b ne = absurd (omega arith)
      down (suc f) x lt b ne =
          let hx : x < length sources = body_in h x in_sources b in
          let not_zero : x ≢ 0 = λ z. ne (z ∙ sym (body_zero h in_sources (subst (λ v. Body h v) z b))) in
          let y = O.fed x hx not_zero in
          let less = y.2 in
          let by : Body h y.0 = closed h x y.0 b ne y.1 in
          let cy : Contains l y.0 = (are y.0).1 by in
          let cx : Contains l x = (are x).1 b in
          let e : EdgeOf s r y.0 x = edges y.0 x ((rev.edges y.0 x).0 y.1) cy cx in ⊎_elim
          (λ (at : y.0 ≡ h). subst (λ v. Way s r l v x) at (edge y.0 x e cy cx))
          (λ (away : y.0 ≢ h). way_then s r l h y.0 x (down f y.0 (omega (arith, less, lt)) by away) e cy cx)
          (cases_eq y.0 h)

      around : IsHead sources place h → Way s r l h h
      around (w, e, le) = let v : Way s r l w h = up w (back w e le) in ⊎_elim
          (λ (at : w ≡ h). subst (λ u. Way s r l u h) at v)
          (λ (away : w ≢ h). way_append s r l h w h (down (suc (P w)) w (omega arith) (inr (back w e le)) away) v)
          (cases_eq w h)

      pub body_connected : IsHead sources place h → IsConnected s r l
      body_connected head a b ca cb = way_append s r l a h b (to_head a ((are a).0 ca)) (from_head b ((are b).0 cb))
        where
          to_head : (x : ℕ) → Body h x → Way s r l x h
          to_head x (inl e) = subst (λ v. Way s r l v h) (sym e) (around head)
          to_head x (inr q) = up x q

          from_head : (x : ℕ) → Body h x → Way s r l h x
          from_head x q = ⊎_elim
              (λ (e : x ≡ h). subst (λ v. Way s r l h v) (sym e) (around head))
              (λ (ne : x ≢ h). down (suc (P x)) x (omega arith) q ne)
              (cases_eq x h)

    -- a connected set lies in the body of its earliest node
    way_reaches : (r : Region) (l : List ℕ) (z a : ℕ) → ((b : ℕ) → Contains l b → P z ≤ P b) → Way s r l a z → Reaches sources place z a
    way_reaches r l _ _ low (edge a z e ca cz) = back a ((rev.edges a z).1 (edge_of s r a z e)) (low a ca)
    way_reaches r l _ _ low (more a b z e ca w) = ⊎_elim
        (λ (at : b ≡ z). back a ((rev.edges a z).1 (subst (λ v. Edge s a v) at (edge_of s r a b e))) (low a ca))
        (λ (away : b ≢ z). before b a (way_reaches r l z b low w) away ((rev.edges a b).1 (edge_of s r a b e)))
        (cases_eq b z)

    pub earliest : (r : Region) (l : List ℕ) (a : ℕ) → Contains l a → IsConnected s r l
        → (z : ℕ) × Contains l z × IsHead sources place z × ((b : ℕ) → Contains l b → Reaches sources place z b) × ((w : ℕ) × EdgeOf s r w z)
    earliest r l a ca con =
        let q = least P l a ca in
        let last = way_last s r l q.0 q.0 (con q.0 q.0 q.1 q.1) in (
          q.0,
          q.1,
          (last.0, (rev.edges last.0 q.0).1 (edge_of s r last.0 q.0 last.1), q.2 last.0 last.2),
          (λ b cb. way_reaches r l q.0 b q.2 (con b q.0 cb q.1)),
          (last.0, last.1),
        )

    -- the only node where a body is entered is its header
    pub body_header : (h : ℕ) (l : List ℕ) → h < length sources → AreBody sources place h l → IsHeader s l h
    body_header h l hh are = record {
      member = (are h).1 (inl refl);
      enters = ⊎_elim
          (λ (z : h ≡ 0). inl z)
          (λ (nz : h ≢ 0). let x = O.fed h hh nz in inr (x.0, (rev.edges x.0 h).0 x.1, λ c. let low = body_low h x.0 ((are x.0).0 c) in let less = x.2 in omega (arith, low, less)))
          (cases_eq h 0);
      only = λ b cb en. ⊎_elim
          (λ (e : b ≡ h). e)
          (λ (ne : b ≢ h). absurd (entered b cb ne en))
          (cases_eq b h);
    }
      where
        entered : (b : ℕ) → Contains l b → b ≢ h → Enters s l b → ⊥
        entered b cb ne (inl z) = ne (z ∙ sym (body_zero h hh (subst (λ v. Body h v) z ((are b).0 cb))))
        entered b cb ne (inr (a, e, out)) = out ((are a).1 (closed h b a ((are b).0 cb) ne ((rev.edges a b).1 e)))

    -- a body in no other one is a largest set
    largest_outermost : (h : ℕ) (l : List ℕ) → IsHead sources place h → AreBody sources place h l → ((z : ℕ) → IsHead sources place z → Body z h → z ≡ h) → IsLargest s Whole l
    largest_outermost h l head are alone = record {
      some = (h, (are h).1 (inl refl));
      connected = body_connected Whole l h (head_of h head) are (λ a b e _ _. e) head;
      largest = λ k within con a ca.
          let q = earliest Whole k a ca con in
          let at : q.0 ≡ h = alone q.0 q.2 (inr (q.3 h (within h ((are h).1 (inl refl))))) in
          (are a).1 (subst (λ v. Body v a) at (inr (q.3 a ca)));
    }

    -- the edges inside a body in another one are edges of the region of the other
    pub inner_edges : (h g : ℕ) (l m : List ℕ) → h < length sources → g < length sources → AreBody sources place h l → AreBody sources place g m → Body g h → g ≢ h
        → (a b : ℕ) → Edge s a b → Contains l a → Contains l b → EdgeOf s (Inside m g) a b
    inner_edges h g l m hh hg are are_g gh ne a b e ca cb =
        let le = body_low g h gh in (
          e,
          (are_g a).1 (inside_body g h a hg hh gh le ((are a).0 ca)),
          (are_g b).1 (inside_body g h b hg hh gh le ((are b).0 cb)),
          λ q. let low = body_low h b ((are b).0 cb) in let p = ap P q in ne (same g h hg hh (omega (arith, low, p, le))),
        )

    -- a body is a largest set of the region of the next one around it
    largest_inner : (h g : ℕ) (l m : List ℕ) → IsHead sources place h → g < length sources → AreBody sources place h l → AreBody sources place g m → Body g h → g ≢ h
        → ((z : ℕ) → IsHead sources place z → Body z h → z ≢ h → P z ≤ P g) → IsLargest s (Inside m g) l
    largest_inner h g l m head hg are are_g gh ne next = record {
      some = (h, (are h).1 (inl refl));
      connected = body_connected (Inside m g) l h hh are (inner_edges h g l m hh hg are are_g gh ne) head;
      largest = λ k within con a ca.
          let q = earliest (Inside m g) k a ca con in
          let zh : Body q.0 h = inr (q.3 h (within h ((are h).1 (inl refl)))) in
          let at : q.0 ≡ h = ⊎_elim
          (λ (e : q.0 ≡ h). e)
          (λ (away : q.0 ≢ h).
          let low = next q.0 q.2 zh away in
          let gz : Body g q.0 = (are_g q.0).0 q.4.1.2 in
          let high = body_low g q.0 gz in
          absurd (q.4.1.3 (same q.0 g (head_of q.0 q.2) hg (omega (arith, low, high)))))
          (cases_eq q.0 h) in
          (are a).1 (subst (λ v. Body v a) at (inr (q.3 a ca)));
    }
      where
        hh : h < length sources
        hh = head_of h head

-- a body in no other one is an outermost loop
pub outermost_bodies : OutermostBodies
outermost_bodies s sources order place rev S O h members head are alone =
    outermost h members (largest_outermost sources order place S O s rev h members head are alone) (body_header sources order place S O s rev h members (head_of sources order place S O h head) are)

-- a body in another one is an inner loop
pub inner_bodies : InnerBodies
inner_bodies s sources order place rev S O h outer around members set head head_outer are are_outer in_outer other next loop =
    inner h outer around members set loop (largest_inner sources order place S O s rev h outer members set head (head_of sources order place S O outer head_outer) are are_outer in_outer other next)
    (body_header sources order place S O s rev h members (head_of sources order place S O h head) are)
