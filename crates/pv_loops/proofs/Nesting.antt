-- Headers in one another, and the loops of a shape.
use Rattle.std.proofs.Common.{◌≡◌, ◌≢◌, ℕ, suc, ◌<◌, ◌≤◌, List, [], ◌∷◌, length, get_or, refl, sym, ◌∙◌, ap, subst, arith, inl, inr, ⊎_elim}
use Rattle.pv_loops.proofs.Words.{cases_eq, cases_lt, IsShape, IsReversed, Whole, Inside, IsWithin, IsLoop, outermost, IsOrder, IsHead, InBody, AreBody, IsNext, IsAlone, Encloses, alone, within}
use Rattle.pv_loops.specs.Loops.{inner}
use Rattle.pv_loops.proofs.Bodies.{same, head_of, body_low, meet, inside_body, earliest, body_header, body_connected, inner_edges, outermost_bodies, inner_bodies}

module _ (sources : List (List ℕ)) (order place : List ℕ) (S : IsShape sources) (O : IsOrder sources order place) where
  abbrev P : ℕ → ℕ
  P x = get_or place x 0

  abbrev Head : ℕ → Type 0
  Head h = IsHead sources place h

  abbrev Body : ℕ → ℕ → Type 0
  Body h x = InBody sources place h x

  pub low : (h x : ℕ) → Body h x → P h ≤ P x
  low h x b = body_low sources order place S O h x b

  node : (h : ℕ) → Head h → h < length sources
  node h head = head_of sources order place S O h head

  pub same_head : (g h : ℕ) → Head g → Head h → P g ≡ P h → g ≡ h
  same_head g h hg hh e = same sources order place S O g h (node g hg) (node h hh) e

  pub meets : (a b x : ℕ) → Head a → Head b → Body a x → Body b x → P a ≤ P b → Body a b
  meets a b x ha hb ba bb le = meet sources order place S O (suc (P x)) a b x (omega arith) (node a ha) (node b hb) ba bb le

  pub inside : (a b y : ℕ) → Head a → Head b → Body a b → Body b y → Body a y
  inside a b y ha hb ab by = inside_body sources order place S O a b y (node a ha) (node b hb) ab (low a b ab) by

  pub same_next : (h g o : ℕ) → IsNext sources place h g → IsNext sources place h o → g ≡ o
  same_next h g o ng no' = let le = no'.latest g ng.head ng.body ng.other in let ge = ng.latest o no'.head no'.body no'.other in same_head g o ng.head no'.head (omega (arith, le, ge))

  pub enclosed_head : (h : ℕ) (around : List ℕ) → Encloses sources place h around → Head h
  enclosed_head _ _ (alone h head q) = head
  enclosed_head _ _ (within h o around head next e) = head

  pub same_around : (h : ℕ) (a b : List ℕ) → Encloses sources place h a → Encloses sources place h b → a ≡ b
  same_around _ _ _ (alone h head q) (alone h' head' q') = refl
  same_around _ _ _ (alone h head q) (within h' o b head' next e) = absurd (next.other (q o next.head next.body))
  same_around _ _ _ (within h o a head next e) (alone h' head' q) = absurd (next.other (q o next.head next.body))
  same_around _ _ _ (within h o a head next e) (within h' g b head' next' e') =
      let q : g ≡ o = same_next h g o next' next in ap (λ v. v ∷ a) (sym q) ∙ ap (λ l. g ∷ l) (same_around o a b e (subst (λ v. Encloses sources place v b) q e'))

  -- a header around another one has fewer headers around it
  pub fewer_around : (z : ℕ) (az : List ℕ) → Head z → Encloses sources place z az → (h : ℕ) (around : List ℕ) → Encloses sources place h around → Body z h → z ≢ h → length az < length around
  fewer_around z az hz ez _ _ (alone h head q) b ne = absurd (ne (q z hz b))
  fewer_around z az hz ez _ _ (within h o around head next e) b ne = ⊎_elim
      (λ (q : z ≡ o). let len = ap length (same_around o az around (subst (λ v. Encloses sources place v az) q ez) e) in omega (arith, len))
      (λ (away : z ≢ o). let less = fewer_around z az hz ez o around e (meets z o h hz next.head b next.body (next.latest z hz b ne)) away in omega (arith, less))
      (cases_eq z o)

  module _ (s : List (List ℕ)) (rev : IsReversed s sources) where
    -- the body of a header with its headers around it is a loop
    pub enclosed_loop : (h : ℕ) (around : List ℕ) → Encloses sources place h around → ((z : ℕ) → Head z → P z ≤ P h → (l : List ℕ) × AreBody sources place z l) → (l : List ℕ) → AreBody sources place h l → IsLoop s (h ∷ around) l
    enclosed_loop _ _ (alone h head q) bodies l are = outermost_bodies s sources order place rev S O h l head are q
    enclosed_loop _ _ (within h o around head next e) bodies l are =
        let le = low o h next.body in
        let m = bodies o next.head le in
        inner_bodies s sources order place rev S O h o around l m.0 head next.head are m.1 next.body next.other next.latest (enclosed_loop o around e (λ z hz lz. bodies z hz (omega (arith, lz, le))) m.0 m.1)

    -- a loop with these headers is the body of the first, and the others are those around it
    abbrev pub IsEnclosed : List ℕ → List ℕ → Type 0
    IsEnclosed [] members = ⊥
    IsEnclosed (h ∷ around) members = Encloses sources place h around × AreBody sources place h members

    pub loop_enclosed : ((z : ℕ) → Head z → (l : List ℕ) × AreBody sources place z l) → (headers members : List ℕ) → IsLoop s headers members → IsEnclosed headers members
    loop_enclosed bodies _ _ (outermost header members largest is) =
        let q = earliest sources order place S O s rev Whole members largest.some.0 largest.some.1 largest.connected in
        let z : ℕ = q.0 in
        let hz : Head z = q.2 in
        let b = bodies z hz in
        let forth : IsWithin members b.0 = λ a ca. (b.1 a).1 (inr (q.3 a ca)) in
        let back : IsWithin b.0 members = largest.largest b.0 forth (body_connected sources order place S O s rev Whole b.0 z (node z hz) b.1 (λ a c e _ _. e) hz) in
        let are : AreBody sources place z members = λ x. ((λ c. inr (q.3 x c)), (λ d. back x ((b.1 x).1 d))) in
        let at : z ≡ header = is.only z q.1 (body_header sources order place S O s rev z members (node z hz) are).enters in
        let sole : IsAlone sources place z = λ y hy by.
        let m = bodies y hy in
        let round : IsWithin members m.0 = λ a ca. (m.1 a).1 (inside y z a hy hz by ((are a).0 ca)) in
        let all : IsWithin m.0 members = largest.largest m.0 round (body_connected sources order place S O s rev Whole m.0 y (node y hy) m.1 (λ a c e _ _. e) hy) in
        let le = low y z by in
        let ge = low z y ((are y).0 (all y ((m.1 y).1 (inl refl)))) in
        same_head y z hy hz (omega (arith, le, ge)) in
        subst (λ v. IsEnclosed (v ∷ []) members) at (alone z hz sole, are)
    loop_enclosed bodies _ _ (inner header outer around members set loop largest is) =
        let up = loop_enclosed bodies (outer ∷ around) set loop in
        let ho : Head outer = enclosed_head outer around up.0 in
        let q = earliest sources order place S O s rev (Inside set outer) members largest.some.0 largest.some.1 largest.connected in
        let z : ℕ = q.0 in
        let hz : Head z = q.2 in
        let b = bodies z hz in
        let oz : Body outer z = (up.1 z).0 q.4.1.2 in
        let other : outer ≢ z = λ e. q.4.1.3 (sym e) in
        let forth : IsWithin members b.0 = λ a ca. (b.1 a).1 (inr (q.3 a ca)) in
        let back : IsWithin b.0 members = largest.largest b.0 forth (body_connected sources order place S O s rev (Inside set outer) b.0 z (node z hz) b.1
        (inner_edges sources order place S O s rev z outer b.0 set (node z hz) (node outer ho) b.1 up.1 oz other) hz) in
        let are : AreBody sources place z members = λ x. ((λ c. inr (q.3 x c)), (λ d. back x ((b.1 x).1 d))) in
        let at : z ≡ header = is.only z q.1 (body_header sources order place S O s rev z members (node z hz) are).enters in
        let latest : (y : ℕ) → Head y → Body y z → y ≢ z → P y ≤ P outer = λ y hy by ne. ⊎_elim
        (λ (later : P outer < P y).
        let oy : Body outer y = meets outer y z ho hy oz by (omega (arith, later)) in
        let m = bodies y hy in
        let round : IsWithin members m.0 = λ a ca. (m.1 a).1 (inside y z a hy hz by ((are a).0 ca)) in
        let all : IsWithin m.0 members = largest.largest m.0 round (body_connected sources order place S O s rev (Inside set outer) m.0 y (node y hy) m.1
        (inner_edges sources order place S O s rev y outer m.0 set (node y hy) (node outer ho) m.1 up.1 oy (λ e. let p = ap P e in omega (arith, p, later))) hy) in
        let le = low y z by in
        let ge = low z y ((are y).0 (all y ((m.1 y).1 (inl refl)))) in
        absurd (ne (same_head y z hy hz (omega (arith, le, ge)))))
        (λ (le : P y ≤ P outer). le)
        (cases_lt (P outer) (P y)) in
        subst (λ v. IsEnclosed (v ∷ outer ∷ around) members) at (within z outer around hz (record { head = ho; body = oz; other = other; latest = latest }) up.0, are)
