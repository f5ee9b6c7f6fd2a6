-- A flow's equations have a solution: built again and again, the values settle, by rank and depth.
use Rattle.std.proofs.Common.{◌≡◌, ◌≢◌, ℕ, zero, suc, ◌+◌, ◌<◌, ◌≤◌, Bool, true, false, List, [], ◌∷◌, ◌++◌, length, Option, Some, None, ◌⊎◌, inl, inr, ⊎_elim, refl, sym, ap, ◌∙◌, subst, append-nil, append_assoc, length-append, arith, le_refl}
use Rattle.pv_equations.proofs.Words.{Exp, Name, Heads, IsFinite, Flow, Shape, Compact, Target, Node, Back, Finish, Returning, Leaving, Values, tree_of, or_else, first_of_region, first_loops, Given, never_exp, at_start, AreTrees, AreEquations}
use Rattle.pv_equations.proofs.Same.{heads_dec, Done, Names, LoopsAgree, names_under}
use Rattle.pv_equations.proofs.Agree.{NamesOf, Ready, node_same, region_same}
use Rattle.pv_equations.proofs.Unique.{names_more}
use Rattle.pv_equations.proofs.Bare.{dec, Bounded, entering_by, again_by, ending_by, value_by}
use Rattle.pv_equations.proofs.Build.{built_trees, rebuilt}

-- the values of u are those that the trees of v give
pub record Next (f : Flow) (v u : Values) : Type 0 where
  pub starts : (s : ℕ) → (Heads (f.around f.entry) f.entry → ⊥) → u.value f.entry s ≡ at_start f s
  pub blocks : (b s : ℕ) → (Heads (f.around b) b → ⊥) → b ≢ f.entry → Given (tree_of f v (f.around b) (Node b) s) (u.value b s)
  pub names : (h s : ℕ) (B : List ℕ) → f.around h ≡ h ∷ B → f.carried h s ≡ true → u.value h s ≡ Name h s
  pub others : (h s : ℕ) (B : List ℕ) → f.around h ≡ h ∷ B → f.carried h s ≡ false → u.value h s ≡ u.entering h s
  pub first_entries : (s : ℕ) → Heads (f.around f.entry) f.entry → u.entering f.entry s ≡ at_start f s
  pub entries : (h s : ℕ) (B : List ℕ) → f.around h ≡ h ∷ B → h ≢ f.entry → Given (tree_of f v B (Node h) s) (u.entering h s)
  pub agains : (h s : ℕ) (B : List ℕ) → f.around h ≡ h ∷ B → Given (tree_of f v (h ∷ B) Back s) (u.again h s)
  pub endings : (h : ℕ) (B : List ℕ) → f.around h ≡ h ∷ B → Given (tree_of f v (h ∷ B) Leaving 0) (u.ending h)

tail_is : (h : ℕ) (B C : List ℕ) → h ∷ B ≡ h ∷ C → B ≡ C
tail_is h B C e = cc

module _ (f : Flow) (rank : ℕ → ℕ) (shape : Shape f rank) (compact : Compact f rank) (top : ℕ) (below_top : (b : ℕ) → rank b < top) where
  first_around : (b : ℕ) (P B : List ℕ) → f.around b ≡ P ++ B → f.around (first_of_region f B) ≡ first_loops f B ++ B
  first_around b P [] a = sym (append-nil (f.around f.entry))
  first_around b P (k ∷ B) a = (shape.headers b k P B a).0

  -- one step of the values
  module _ (K : ℕ → List ℕ → Type 0) (N lim : ℕ) (lim_le : lim ≤ N) (done : (h : ℕ) (B : List ℕ) → Done f rank lim h B → K h B) (v u : Values) (tv : AreTrees f v) (tu : AreTrees f u) (agree : LoopsAgree f K v u)
      (values : (b s : ℕ) → rank b < N → (v.value b s ≡ u.value b s) × Names f K (f.around b) (v.value b s)) (v' u' : Values) (nv : Next f v v') (nu : Next f u u') where
    abbrev NamesOfK : List ℕ → Option Exp → Type 0
    NamesOfK R r = NamesOf f rank shape compact top below_top K N lim lim_le done v u tv tu agree values R r

    orelse : (R : List ℕ) (r : Option Exp) → NamesOfK R r → Names f K R (or_else r never_exp)
    orelse R None p = tt
    orelse R (Some y) p = p

    given_same : (R : List ℕ) (r q : Option Exp) → r ≡ q → NamesOfK R r → (a c : Exp) → Given r a → Given q c → (a ≡ c) × Names f K R a
    given_same R r q e p a c x y = (x ∙ ap (λ (r : Option Exp). or_else r never_exp) e ∙ sym y, subst (Names f K R) (sym x) (orelse R r p))

    node_given : (b : ℕ) (P R : List ℕ) → f.around b ≡ P ++ R → (k s : ℕ) → rank k ≤ lim → (a c : Exp) → Given (tree_of f v R (Node k) s) a → Given (tree_of f u R (Node k) s) c → (a ≡ c) × Names f K R a
    node_given b P R ab k s low a c x y =
        let o = node_same f rank shape compact top below_top K N lim lim_le done v u tv tu agree values R k low s (first_loops f R) (first_of_region f R) (first_around b P R ab) in
        given_same R _ _ o.0 o.1 a c x y

    entering_next : (h s : ℕ) (B : List ℕ) → f.around h ≡ h ∷ B → rank h ≤ lim → (v'.entering h s ≡ u'.entering h s) × Names f K B (v'.entering h s)
    entering_next h s B ah low = go (dec h f.entry)
      where
        go : (h ≡ f.entry) ⊎ (h ≢ f.entry) → (v'.entering h s ≡ u'.entering h s) × Names f K B (v'.entering h s)
        go (inl e) =
            let hd : Heads (f.around f.entry) f.entry = (B, subst (λ (h : ℕ). f.around h ≡ h ∷ B) e ah) in
            let x = ap (λ (h : ℕ). v'.entering h s) e ∙ nv.first_entries s hd in
            (x ∙ sym (ap (λ (h : ℕ). u'.entering h s) e ∙ nu.first_entries s hd), subst (Names f K B) (sym x) tt)
        go (inr e) = node_given h (h ∷ []) B ah h s low (v'.entering h s) (u'.entering h s) (nv.entries h s B ah e) (nu.entries h s B ah e)

    value_next : (b s : ℕ) → rank b ≤ lim → (v'.value b s ≡ u'.value b s) × Names f K (f.around b) (v'.value b s)
    value_next b s low = go (heads_dec (f.around b) b) (dec b f.entry)
      where
        carried : (B : List ℕ) → f.around b ≡ b ∷ B → (c : Bool) → f.carried b s ≡ c → (v'.value b s ≡ u'.value b s) × Names f K (f.around b) (v'.value b s)
        carried B ab true e = (nv.names b s B ab e ∙ sym (nu.names b s B ab e), subst (Names f K (f.around b)) (sym (nv.names b s B ab e)) (λ X l C z. inl (X, z)))
        carried B ab false e =
            let r = entering_next b s B ab low in (
              nv.others b s B ab e ∙ r.0 ∙ sym (nu.others b s B ab e),
              subst (Names f K (f.around b)) (sym (nv.others b s B ab e)) (names_under f K B (f.around b) (λ X l C z. inl (b ∷ X, ab ∙ ap (λ (J : List ℕ). b ∷ J) z)) (v'.entering b s) r.1),
            )

        go : Heads (f.around b) b ⊎ (Heads (f.around b) b → ⊥) → (b ≡ f.entry) ⊎ (b ≢ f.entry) → (v'.value b s ≡ u'.value b s) × Names f K (f.around b) (v'.value b s)
        go (inl z) en = carried z.0 z.1 (f.carried b s) refl
        go (inr z) (inl en) =
            let nh = subst (λ (b : ℕ). Heads (f.around b) b → ⊥) en z in
            let x = ap (λ (b : ℕ). v'.value b s) en ∙ nv.starts s nh in
            (x ∙ sym (ap (λ (b : ℕ). u'.value b s) en ∙ nu.starts s nh), subst (Names f K (f.around b)) (sym x) tt)
        go (inr z) (inr en) = node_given b [] (f.around b) refl b s low (v'.value b s) (u'.value b s) (nv.blocks b s z en) (nu.blocks b s z en)

    loop_next : (h : ℕ) (C : List ℕ) → f.around h ≡ h ∷ C → ((F : List ℕ) (b : ℕ) → f.around b ≡ F ++ h ∷ C → (rank b < N) × ((E : List ℕ) (l : ℕ) (G : List ℕ) → F ≡ E ++ l ∷ G → K l (G ++ h ∷ C)))
        → ((s : ℕ) → (v'.again h s ≡ u'.again h s) × Names f K (h ∷ C) (v'.again h s)) × ((v'.ending h ≡ u'.ending h) × Names f K (h ∷ C) (v'.ending h))
    loop_next h C ah inside = (
      (λ s. let o = region_same f rank shape compact top below_top K N lim lim_le done v u tv tu agree values (h ∷ C) ready Back tt s [] h ah in given_same (h ∷ C) _ _ o.0 o.1 (v'.again h s) (u'.again h s) (nv.agains h s C ah) (nu.agains h s C ah)),
      (let o = region_same f rank shape compact top below_top K N lim lim_le done v u tv tu agree values (h ∷ C) ready Leaving tt 0 [] h ah in given_same (h ∷ C) _ _ o.0 o.1 (v'.ending h) (u'.ending h) (nv.endings h C ah) (nu.endings h C ah)),
    )
      where
        ready : (F : List ℕ) (b : ℕ) → f.around b ≡ F ++ h ∷ C → Ready f rank shape compact top below_top K N lim lim_le done v u tv tu agree values (h ∷ C) F b
        ready F b ab = ((inside F b ab).0, λ E l G z. ((shape.headers b l E (G ++ h ∷ C) (ab ∙ ap (λ (J : List ℕ). J ++ h ∷ C) z ∙ append_assoc E (l ∷ G) (h ∷ C))).0, (inside F b ab).1 E l G z))

  module _ (deepest : ℕ) (deep : (b : ℕ) → length (f.around b) ≤ deepest) where
    abbrev D : ℕ → ℕ → List ℕ → Type 0
    D n h B = Done f rank n h B

    -- the loops that are done with ranks below n, and those deeper than d that are done with rank n
    abbrev Deeper : ℕ → ℕ → ℕ → List ℕ → Type 0
    Deeper n d h B = D n h B ⊎ (D (suc n) h B × (d < length (h ∷ B)))

    abbrev Stage : ℕ → ℕ → Values → Values → Type 0
    Stage n d v u = ((b s : ℕ) → rank b < suc n → (v.value b s ≡ u.value b s) × Names f (Deeper n d) (f.around b) (v.value b s)) × LoopsAgree f (Deeper n d) v u

    -- the blocks in a loop, and the loops inside it
    inside_loop : (n h : ℕ) (C : List ℕ) → D n h C → (F : List ℕ) (b : ℕ) → f.around b ≡ F ++ h ∷ C → (rank b < n) × ((E : List ℕ) (l : ℕ) (G : List ℕ) → F ≡ E ++ l ∷ G → D n l (G ++ h ∷ C) × (length (h ∷ C) < length (l ∷ (G ++ h ∷ C))))
    inside_loop n h C d F b a = (d b F a, λ E l G z. ((λ c X ac. d c (X ++ l ∷ G) (ac ∙ sym (append_assoc X (l ∷ G) (h ∷ C)))), (let o : length (G ++ h ∷ C) ≡ length G + length (h ∷ C) = length-append G (h ∷ C) in omega arith)))

    stage_first : (v u v' u' : Values) → AreTrees f v → AreTrees f u → Next f v v' → Next f u u' → Stage 0 deepest v' u'
    stage_first v u v' u' tv tu nv nu = (
      (λ b s l. let r = value_next (D 0) 0 0 (le_refl 0) (λ h B d. d) v u tv tu none (λ b s l. absurd (omega arith)) v' u' nv nu b s (omega arith) in (r.0, names_more f (D 0) (Deeper 0 deepest) (λ h B x. inl x) (f.around b) (v'.value b s) r.1)),
      (λ h C ah x. absurd (⊎_elim (λ y. let z = y h [] ah in omega arith) (λ y. let z = deep h in let l = y.1 in let o : length (f.around h) ≡ length (h ∷ C) = ap length ah in omega arith) x)),
    )
      where
        none : LoopsAgree f (D 0) v u
        none h C ah x = absurd (let z = x h [] ah in omega arith)

    stage_down : (n d : ℕ) (v u v' u' : Values) → AreTrees f v → AreTrees f u → Next f v v' → Next f u u' → Stage n (suc d) v u → Stage n d v' u'
    stage_down n d v u v' u' tv tu nv nu st = (values, loops)
      where
        n_le : n ≤ suc n
        n_le = omega arith

        more : (h : ℕ) (B : List ℕ) → Deeper n (suc d) h B → Deeper n d h B
        more h B (inl x) = inl x
        more h B (inr x) = inr (x.0, (let l = x.1 in omega arith))

        values : (b s : ℕ) → rank b < suc n → (v'.value b s ≡ u'.value b s) × Names f (Deeper n d) (f.around b) (v'.value b s)
        values b s l =
            let r = value_next (Deeper n (suc d)) (suc n) n n_le (λ h B x. inl x) v u tv tu st.1 st.0 v' u' nv nu b s (omega arith) in
            (r.0, names_more f (Deeper n (suc d)) (Deeper n d) more (f.around b) (v'.value b s) r.1)

        inside : (h : ℕ) (C : List ℕ) → f.around h ≡ h ∷ C → Deeper n d h C → (F : List ℕ) (b : ℕ) → f.around b ≡ F ++ h ∷ C → (rank b < suc n) × ((E : List ℕ) (l : ℕ) (G : List ℕ) → F ≡ E ++ l ∷ G → Deeper n (suc d) l (G ++ h ∷ C))
        inside h C ah (inl x) F b a = let o = inside_loop n h C x F b a in ((let z = o.0 in omega arith), λ E l G z. inl (o.1 E l G z).0)
        inside h C ah (inr x) F b a = let o = inside_loop (suc n) h C x.0 F b a in (o.0, λ E l G z. inr ((o.1 E l G z).0, (let y = (o.1 E l G z).1 in let w = x.1 in omega arith)))

        low : (h : ℕ) (C : List ℕ) → f.around h ≡ h ∷ C → Deeper n d h C → rank h ≤ n
        low h C ah (inl x) = let z = x h [] ah in omega arith
        low h C ah (inr x) = let z = x.0 h [] ah in omega arith

        loops : LoopsAgree f (Deeper n d) v' u'
        loops h C ah x =
            let r = loop_next (Deeper n (suc d)) (suc n) n n_le (λ h B x. inl x) v u tv tu st.1 st.0 v' u' nv nu h C ah (inside h C ah x) in
            let e = λ (s : ℕ). entering_next (Deeper n (suc d)) (suc n) n n_le (λ h B x. inl x) v u tv tu st.1 st.0 v' u' nv nu h s C ah (low h C ah x) in (
              (λ s. ((e s).0, names_more f (Deeper n (suc d)) (Deeper n d) more C (v'.entering h s) (e s).1, (r.0 s).0, names_more f (Deeper n (suc d)) (Deeper n d) more (h ∷ C) (v'.again h s) (r.0 s).1)),
              r.1.0,
              names_more f (Deeper n (suc d)) (Deeper n d) more (h ∷ C) (v'.ending h) r.1.1,
            )

    stage_up : (n : ℕ) (v u v' u' : Values) → AreTrees f v → AreTrees f u → Next f v v' → Next f u u' → Stage n 0 v u → Stage (suc n) deepest v' u'
    stage_up n v u v' u' tv tu nv nu st = (values, loops)
      where
        known : (h : ℕ) (B : List ℕ) → D (suc n) h B → Deeper n 0 h B
        known h B x = inr (x, omega arith)

        more : (h : ℕ) (B : List ℕ) → Deeper n 0 h B → Deeper (suc n) deepest h B
        more h B (inl x) = inl (λ c X a. let z = x c X a in omega arith)
        more h B (inr x) = inl x.0

        values : (b s : ℕ) → rank b < suc (suc n) → (v'.value b s ≡ u'.value b s) × Names f (Deeper (suc n) deepest) (f.around b) (v'.value b s)
        values b s l =
            let r = value_next (Deeper n 0) (suc n) (suc n) (le_refl (suc n)) known v u tv tu st.1 st.0 v' u' nv nu b s (omega arith) in
            (r.0, names_more f (Deeper n 0) (Deeper (suc n) deepest) more (f.around b) (v'.value b s) r.1)

        loops : LoopsAgree f (Deeper (suc n) deepest) v' u'
        loops h C ah (inr x) = absurd (let z = deep h in let l = x.1 in let o : length (f.around h) ≡ length (h ∷ C) = ap length ah in omega arith)
        loops h C ah (inl x) =
            let r = loop_next (Deeper n 0) (suc n) (suc n) (le_refl (suc n)) known v u tv tu st.1 st.0 v' u' nv nu h C ah (λ F b a. let o = inside_loop (suc n) h C x F b a in (o.0, λ E l G z. known l (G ++ h ∷ C) (o.1 E l G z).0)) in
            let low : rank h ≤ suc n = (let z = x h [] ah in omega arith) in
            let e = λ (s : ℕ). entering_next (Deeper n 0) (suc n) (suc n) (le_refl (suc n)) known v u tv tu st.1 st.0 v' u' nv nu h s C ah low in (
              (λ s. ((e s).0, names_more f (Deeper n 0) (Deeper (suc n) deepest) more C (v'.entering h s) (e s).1, (r.0 s).0, names_more f (Deeper n 0) (Deeper (suc n) deepest) more (h ∷ C) (v'.again h s) (r.0 s).1)),
              r.1.0,
              names_more f (Deeper n 0) (Deeper (suc n) deepest) more (h ∷ C) (v'.ending h) r.1.1,
            )

    -- all trees of two that agree on everything
    stage_trees : (v u : Values) → AreTrees f v → AreTrees f u → Stage top deepest v u → (R : List ℕ) (t : Target) (s : ℕ) (F : List ℕ) (b : ℕ) → f.around b ≡ F ++ R → v.tree R t s F b ≡ u.tree R t s F b
    stage_trees v u tv tu st R t s F b a = go t
      where
        t_le : top ≤ suc top
        t_le = omega arith

        ready : (F : List ℕ) (b : ℕ) → f.around b ≡ F ++ R → Ready f rank shape compact top below_top (Deeper top deepest) (suc top) top t_le (λ h B x. inl x) v u tv tu st.1 st.0 R F b
        ready F b a = ((let z = below_top b in omega arith), λ E h K z. ((shape.headers b h E (K ++ R) (a ∙ ap (λ (J : List ℕ). J ++ R) z ∙ append_assoc E (h ∷ K) R)).0, inl (λ c X ac. below_top c)))

        go : (t : Target) → v.tree R t s F b ≡ u.tree R t s F b
        go (Node k) = (node_same f rank shape compact top below_top (Deeper top deepest) (suc top) top t_le (λ h B x. inl x) v u tv tu st.1 st.0 R k (let z = below_top k in omega arith) s F b a).0
        go Back = (region_same f rank shape compact top below_top (Deeper top deepest) (suc top) top t_le (λ h B x. inl x) v u tv tu st.1 st.0 R ready Back tt s F b a).0
        go Finish = (region_same f rank shape compact top below_top (Deeper top deepest) (suc top) top t_le (λ h B x. inl x) v u tv tu st.1 st.0 R ready Finish tt s F b a).0
        go Returning = (region_same f rank shape compact top below_top (Deeper top deepest) (suc top) top t_le (λ h B x. inl x) v u tv tu st.1 st.0 R ready Returning tt s F b a).0
        go Leaving = (region_same f rank shape compact top below_top (Deeper top deepest) (suc top) top t_le (λ h B x. inl x) v u tv tu st.1 st.0 R ready Leaving tt s F b a).0

    module _ (blocks slots : ℕ) (finite : IsFinite f blocks slots) where
      abbrev P : Type 0
      P = Bounded f blocks slots

      abbrev B : P → P
      B p = rebuilt f rank shape top below_top blocks slots finite p

      built_next : (p : P) → Next f p.values (B p).values
      built_next p = record {
        starts = λ s n. starts' s n (heads_dec (f.around f.entry) f.entry) (dec f.entry f.entry);
        blocks = λ b s n e. blocks' b s n e (heads_dec (f.around b) b) (dec b f.entry);
        names = λ h s C ah c. names' h s C ah (heads_dec (f.around h) h) (dec h f.entry) (f.carried h s) c;
        others = λ h s C ah c. others' h s C ah (heads_dec (f.around h) h) (dec h f.entry) (f.carried h s) c;
        first_entries = λ s hd. first' s hd (heads_dec (f.around f.entry) f.entry) (dec f.entry f.entry);
        entries = λ h s C ah e. entries' h s C ah e (heads_dec (f.around h) h) (dec h f.entry);
        agains = λ h s C ah. agains' h s C ah (heads_dec (f.around h) h);
        endings = λ h C ah. endings' h C ah (heads_dec (f.around h) h);
      }
        where
          starts' : (s : ℕ) → (Heads (f.around f.entry) f.entry → ⊥) → (z : Heads (f.around f.entry) f.entry ⊎ (Heads (f.around f.entry) f.entry → ⊥)) (e : (f.entry ≡ f.entry) ⊎ (f.entry ≢ f.entry)) → value_by f p.values f.entry s z e (f.carried f.entry s) ≡ at_start f s
          starts' s n (inl z) e = absurd (n z)
          starts' s n (inr z) (inl e) = refl
          starts' s n (inr z) (inr e) = absurd (e refl)

          blocks' : (b s : ℕ) → (Heads (f.around b) b → ⊥) → b ≢ f.entry → (z : Heads (f.around b) b ⊎ (Heads (f.around b) b → ⊥)) (e : (b ≡ f.entry) ⊎ (b ≢ f.entry)) → value_by f p.values b s z e (f.carried b s) ≡ or_else (tree_of f p.values (f.around b) (Node b) s) never_exp
          blocks' b s n ne (inl z) e = absurd (n z)
          blocks' b s n ne (inr z) (inl e) = absurd (ne e)
          blocks' b s n ne (inr z) (inr e) = refl

          names' : (h s : ℕ) (C : List ℕ) → f.around h ≡ h ∷ C → (z : Heads (f.around h) h ⊎ (Heads (f.around h) h → ⊥)) (e : (h ≡ f.entry) ⊎ (h ≢ f.entry)) (c : Bool) → c ≡ true → value_by f p.values h s z e c ≡ Name h s
          names' h s C ah (inl z) e true k = refl
          names' h s C ah (inl z) e false k = absurd (cc)
          names' h s C ah (inr z) e c k = absurd (z (C, ah))

          others' : (h s : ℕ) (C : List ℕ) → f.around h ≡ h ∷ C → (z : Heads (f.around h) h ⊎ (Heads (f.around h) h → ⊥)) (e : (h ≡ f.entry) ⊎ (h ≢ f.entry)) (c : Bool) → c ≡ false
              → value_by f p.values h s z e c ≡ entering_by f p.values h s z e
          others' h s C ah (inl z) e true k = absurd (cc)
          others' h s C ah (inl z) e false k = refl
          others' h s C ah (inr z) e c k = absurd (z (C, ah))

          first' : (s : ℕ) → Heads (f.around f.entry) f.entry → (z : Heads (f.around f.entry) f.entry ⊎ (Heads (f.around f.entry) f.entry → ⊥)) (e : (f.entry ≡ f.entry) ⊎ (f.entry ≢ f.entry)) → entering_by f p.values f.entry s z e ≡ at_start f s
          first' s hd (inl z) (inl e) = refl
          first' s hd (inl z) (inr e) = absurd (e refl)
          first' s hd (inr z) e = absurd (z hd)

          entries' : (h s : ℕ) (C : List ℕ) → f.around h ≡ h ∷ C → h ≢ f.entry → (z : Heads (f.around h) h ⊎ (Heads (f.around h) h → ⊥)) (e : (h ≡ f.entry) ⊎ (h ≢ f.entry)) → entering_by f p.values h s z e ≡ or_else (tree_of f p.values C (Node h) s) never_exp
          entries' h s C ah ne (inl z) (inl e) = absurd (ne e)
          entries' h s C ah ne (inl z) (inr e) = ap (λ (J : List ℕ). or_else (tree_of f p.values J (Node h) s) never_exp) (tail_is h z.0 C (sym z.1 ∙ ah))
          entries' h s C ah ne (inr z) e = absurd (z (C, ah))

          agains' : (h s : ℕ) (C : List ℕ) → f.around h ≡ h ∷ C → (z : Heads (f.around h) h ⊎ (Heads (f.around h) h → ⊥)) → again_by f p.values h s z ≡ or_else (tree_of f p.values (h ∷ C) Back s) never_exp
          agains' h s C ah (inl z) = ap (λ (J : List ℕ). or_else (tree_of f p.values (h ∷ J) Back s) never_exp) (tail_is h z.0 C (sym z.1 ∙ ah))
          agains' h s C ah (inr z) = absurd (z (C, ah))

          endings' : (h : ℕ) (C : List ℕ) → f.around h ≡ h ∷ C → (z : Heads (f.around h) h ⊎ (Heads (f.around h) h → ⊥)) → ending_by f p.values h z ≡ or_else (tree_of f p.values (h ∷ C) Leaving 0) never_exp
          endings' h C ah (inl z) = ap (λ (J : List ℕ). or_else (tree_of f p.values (h ∷ J) Leaving 0) never_exp) (tail_is h z.0 C (sym z.1 ∙ ah))
          endings' h C ah (inr z) = absurd (z (C, ah))

      trees : (p : P) → AreTrees f (B p).values
      trees p = built_trees f rank shape top below_top blocks slots finite p

      -- values and what is built from them agree up to a stage
      Settled : ℕ → ℕ → Type 0
      Settled n d = (p : P) × Stage n d (B p).values (B (B p)).values

      step_down : (n d : ℕ) → Settled n (suc d) → Settled n d
      unfolding Settled
      step_down n d s = (B s.0, stage_down n d (B s.0).values (B (B s.0)).values (B (B s.0)).values (B (B (B s.0))).values (trees s.0) (trees (B s.0)) (built_next (B s.0)) (built_next (B (B s.0))) s.1)

      down : (n d : ℕ) → Settled n d → Settled n 0
      down n zero s = s
      down n (suc d) s = down n d (step_down n d s)

      settled : (n : ℕ) (p : P) → Settled n deepest
      unfolding Settled
      settled zero p = (B p, stage_first (B p).values (B (B p)).values (B (B p)).values (B (B (B p))).values (trees p) (trees (B p)) (built_next (B p)) (built_next (B (B p))))
      settled (suc n) p =
          let s = down n deepest (settled n p) in
          (B s.0, stage_up n (B s.0).values (B (B s.0)).values (B (B s.0)).values (B (B (B s.0))).values (trees s.0) (trees (B s.0)) (built_next (B s.0)) (built_next (B (B s.0))) s.1)

      solved : (p : P) → Stage top deepest (B p).values (B (B p)).values → AreEquations f (B (B p)).values
      solved p st = record {
        trees = t.trees;
        starts = n.starts;
        blocks = λ b s z e. subst (λ (r : Option Exp). Given r ((B (B p)).values.value b s)) (same b [] (f.around b) refl (Node b) s) (n.blocks b s z e);
        names = n.names;
        others = n.others;
        first_entries = n.first_entries;
        entries = λ h s C ah e. subst (λ (r : Option Exp). Given r ((B (B p)).values.entering h s)) (same h (h ∷ []) C ah (Node h) s) (n.entries h s C ah e);
        no_loops = t.no_loops;
        agains = λ h s C ah. subst (λ (r : Option Exp). Given r ((B (B p)).values.again h s)) (same h [] (h ∷ C) ah Back s) (n.agains h s C ah);
        endings = λ h C ah. subst (λ (r : Option Exp). Given r ((B (B p)).values.ending h)) (same h [] (h ∷ C) ah Leaving 0) (n.endings h C ah);
        outs_are = t.outs_are;
      }
        where
          t : AreTrees f (B (B p)).values
          t = trees (B p)

          n : Next f (B p).values (B (B p)).values
          n = built_next (B p)

          same : (b : ℕ) (P R : List ℕ) → f.around b ≡ P ++ R → (t : Target) (s : ℕ) → tree_of f (B p).values R t s ≡ tree_of f (B (B p)).values R t s
          same b P R ab t s = stage_trees (B p).values (B (B p)).values (trees p) (trees (B p)) st R t s (first_loops f R) (first_of_region f R) (first_around b P R ab)

      nothing : P
      nothing = record { values = empty; within = λ R t s F b y e. absurd (cc) }
        where
          empty : Values
          empty = record { value = λ b s. never_exp; tree = λ R t s F b. None; out = λ h x. x; ending = λ h. never_exp; entering = λ h s. never_exp; again = λ h s. never_exp }

      -- EXISTS: the equations have a solution
      pub solution : (v : Values) × AreEquations f v
      unfolding Settled
      solution = let s = settled top nothing in ((B (B s.0)).values, solved s.0 s.1)
