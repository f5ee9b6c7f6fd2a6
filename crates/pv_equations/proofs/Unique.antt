-- A flow's equations have one solution.
use Rattle.std.proofs.Common.{◌≡◌, ◌≢◌, ℕ, zero, suc, ◌+◌, ◌<◌, ◌≤◌, Bool, true, false, List, [], ◌∷◌, ◌++◌, length, Option, Some, None, ◌⊎◌, inl, inr, ⊎_elim, refl, sym, ap, ◌∙◌, subst, append-nil, append_assoc, length-append, arith, le_refl}
use Rattle.pv_equations.proofs.Words.{Graph, form_at, Form, form, Tree, trees_of, tree_at, UnfoldsAs, Exp, Exps, Name, Over, NoExp, Then, Heads, Flow, Shape, Compact, Target, Node, Back, Finish, Returning, Leaving, Values, form_of, tree_of, or_else, first_of_region, first_loops, Given, never_exp, first_kid, AreTrees, AreEquations}
use Rattle.pv_graph.specs.declared.node.Op.TheVariants as op
use Rattle.pv_graph.specs.Unfold as trees
use Rattle.pv_graph.specs.Unfold.{unfold_at}
use Rattle.pv_equations.specs.Root.{root_of}
use Rattle.pv_equations.proofs.Same.{heads_dec, Done, Names, AllNames, LoopsAgree, names_under}
use Rattle.pv_equations.proofs.Agree.{NamesOf, Ready, node_same, region_same}

dec : (a b : ℕ) → (a ≡ b) ⊎ (a ≢ b)
dec a b = grind arith

mutual
  pub names_more : (f : Flow) (K L : ℕ → List ℕ → Type 0) → ((h : ℕ) (B : List ℕ) → K h B → L h B) → (A : List ℕ) (e : Exp) → Names f K A e → Names f L A e
  names_more f K L m A (Name h s) p = λ X l C z. ⊎_elim (λ y. inl y) (λ y. inr (m l C y)) (p X l C z)
  names_more f K L m A (Over o es) p = all_more f K L m A es p

  all_more : (f : Flow) (K L : ℕ → List ℕ → Type 0) → ((h : ℕ) (B : List ℕ) → K h B → L h B) → (A : List ℕ) (es : Exps) → AllNames f K A es → AllNames f L A es
  all_more f K L m A NoExp p = tt
  all_more f K L m A (Then e es) p = (names_more f K L m A e p.0, all_more f K L m A es p.1)

pub equation_trees : (f : Flow) (v : Values) → AreEquations f v → AreTrees f v
equation_trees f v e = record { trees = e.trees; no_loops = e.no_loops; outs_are = e.outs_are }

module _ (f : Flow) (rank : ℕ → ℕ) (shape : Shape f rank) (compact : Compact f rank) (top : ℕ) (below_top : (b : ℕ) → rank b < top) (deepest : ℕ) (deep : (b : ℕ) → length (f.around b) ≤ deepest)
    (v u : Values) (ev : AreEquations f v) (eu : AreEquations f u) where
  abbrev D : ℕ → ℕ → List ℕ → Type 0
  D n h B = Done f rank n h B

  first_around : (b : ℕ) (P B : List ℕ) → f.around b ≡ P ++ B → f.around (first_of_region f B) ≡ first_loops f B ++ B
  first_around b P [] a = sym (append-nil (f.around f.entry))
  first_around b P (k ∷ B) a = (shape.headers b k P B a).0

  -- what is known of the blocks of ranks below n, and of the loops that are done
  abbrev Valued : ℕ → (ℕ → List ℕ → Type 0) → Type 0
  Valued n K = (b s : ℕ) → rank b < n → (v.value b s ≡ u.value b s) × Names f K (f.around b) (v.value b s)

  abbrev Known : ℕ → Type 0
  Known n = Valued n (D n) × LoopsAgree f (D n) v u

  done_more : (n m : ℕ) → n ≤ m → (h : ℕ) (B : List ℕ) → D n h B → D m h B
  done_more n m l h B d c X a = let z = d c X a in omega arith

  module _ (n : ℕ) (known : Known n) where
    orelse_names : (R : List ℕ) (r : Option Exp) → NamesOf f rank shape compact top below_top (D n) n n (le_refl n) (λ h B d. d) v u (equation_trees f v ev) (equation_trees f u eu) known.1 known.0 R r → Names f (D n) R (or_else r never_exp)
    orelse_names R None p = tt
    orelse_names R (Some y) p = p

    node_given : (b : ℕ) (P R : List ℕ) → f.around b ≡ P ++ R → (k s : ℕ) → rank k ≤ n → (a c : Exp) → Given (tree_of f v R (Node k) s) a → Given (tree_of f u R (Node k) s) c → (a ≡ c) × Names f (D n) R a
    node_given b P R ab k s low a c x y =
        let o = node_same f rank shape compact top below_top (D n) n n (le_refl n) (λ h B d. d) v u (equation_trees f v ev) (equation_trees f u eu) known.1 known.0 R k low s (first_loops f R) (first_of_region f R) (first_around b P R ab) in
        (x ∙ ap (λ (r : Option Exp). or_else r never_exp) o.0 ∙ sym y, subst (Names f (D n) R) (sym x) (orelse_names R (tree_of f v R (Node k) s) o.1))

    entering_known : (h s : ℕ) (B : List ℕ) → f.around h ≡ h ∷ B → rank h ≤ n → (v.entering h s ≡ u.entering h s) × Names f (D n) B (v.entering h s)
    entering_known h s B ah low = go (dec h f.entry)
      where
        go : (h ≡ f.entry) ⊎ (h ≢ f.entry) → (v.entering h s ≡ u.entering h s) × Names f (D n) B (v.entering h s)
        go (inl e) =
            let hd : Heads (f.around f.entry) f.entry = (B, subst (λ (h : ℕ). f.around h ≡ h ∷ B) e ah) in
            let x = ap (λ (h : ℕ). v.entering h s) e ∙ ev.first_entries s hd in
            (x ∙ sym (ap (λ (h : ℕ). u.entering h s) e ∙ eu.first_entries s hd), subst (Names f (D n) B) (sym x) tt)
        go (inr e) = node_given h (h ∷ []) B ah h s low (v.entering h s) (u.entering h s) (ev.entries h s B ah e) (eu.entries h s B ah e)

    values_next : Valued (suc n) (D n)
    values_next b s less = go (heads_dec (f.around b) b) (dec b f.entry)
      where
        carried : (B : List ℕ) → f.around b ≡ b ∷ B → (c : Bool) → f.carried b s ≡ c → (v.value b s ≡ u.value b s) × Names f (D n) (f.around b) (v.value b s)
        carried B ab true e = (ev.names b s B ab e ∙ sym (eu.names b s B ab e), subst (Names f (D n) (f.around b)) (sym (ev.names b s B ab e)) (λ X l C z. inl (X, z)))
        carried B ab false e =
            let r = entering_known b s B ab (omega arith) in (
              ev.others b s B ab e ∙ r.0 ∙ sym (eu.others b s B ab e),
              subst (Names f (D n) (f.around b)) (sym (ev.others b s B ab e)) (names_under f (D n) B (f.around b) (λ X l C z. inl (b ∷ X, ab ∙ ap (λ (K : List ℕ). b ∷ K) z)) (v.entering b s) r.1),
            )

        go : Heads (f.around b) b ⊎ (Heads (f.around b) b → ⊥) → (b ≡ f.entry) ⊎ (b ≢ f.entry) → (v.value b s ≡ u.value b s) × Names f (D n) (f.around b) (v.value b s)
        go (inl z) en = carried z.0 z.1 (f.carried b s) refl
        go (inr z) (inl en) =
            let nh = subst (λ (b : ℕ). Heads (f.around b) b → ⊥) en z in
            let x = ap (λ (b : ℕ). v.value b s) en ∙ ev.starts s nh in
            (x ∙ sym (ap (λ (b : ℕ). u.value b s) en ∙ eu.starts s nh), subst (Names f (D n) (f.around b)) (sym x) tt)
        go (inr z) (inr en) = node_given b [] (f.around b) refl b s (omega arith) (v.value b s) (u.value b s) (ev.blocks b s z en) (eu.blocks b s z en)

    -- the loops that are done, and those deeper than d that are done with the blocks of rank n
    abbrev Deeper : ℕ → ℕ → List ℕ → Type 0
    Deeper d h B = D n h B ⊎ (D (suc n) h B × (d < length (h ∷ B)))

    deeper_more : (d : ℕ) (h : ℕ) (B : List ℕ) → Deeper (suc d) h B → Deeper d h B
    deeper_more d h B (inl x) = inl x
    deeper_more d h B (inr x) = inr (x.0, (let l = x.1 in omega arith))

    LoopFacts : (ℕ → List ℕ → Type 0) → ℕ → List ℕ → Type 0
    LoopFacts K h C = ((s : ℕ) → (v.entering h s ≡ u.entering h s) × Names f K C (v.entering h s) × (v.again h s ≡ u.again h s) × Names f K (h ∷ C) (v.again h s)) × (v.ending h ≡ u.ending h) × Names f K (h ∷ C) (v.ending h)

    facts_more : (K L : ℕ → List ℕ → Type 0) → ((h : ℕ) (B : List ℕ) → K h B → L h B) → (h : ℕ) (C : List ℕ) → LoopFacts K h C → LoopFacts L h C
    unfolding LoopFacts
    facts_more K L m h C r =
        ((λ s. let q = r.0 s in (q.0, names_more f K L m C (v.entering h s) q.1, q.2, names_more f K L m (h ∷ C) (v.again h s) q.3)), r.1, names_more f K L m (h ∷ C) (v.ending h) r.2)

    loop_facts : (d : ℕ) → LoopsAgree f (Deeper (suc d)) v u → (h : ℕ) (C : List ℕ) → f.around h ≡ h ∷ C → D (suc n) h C → length (h ∷ C) ≡ suc d → LoopFacts (Deeper (suc d)) h C
    unfolding LoopFacts
    loop_facts d agree h C ah dn len = (
      (λ s. (
        (entering_known h s C ah low).0,
        names_more f (D n) (Deeper (suc d)) (λ h B x. inl x) C (v.entering h s) (entering_known h s C ah low).1,
        ev.agains h s C ah ∙ ap (λ (r : Option Exp). or_else r never_exp) (same_back s).0 ∙ sym (eu.agains h s C ah),
        subst (Names f (Deeper (suc d)) (h ∷ C)) (sym (ev.agains h s C ah)) (orelse (tree_of f v (h ∷ C) Back s) (same_back s).1),
      )),
      ev.endings h C ah ∙ ap (λ (r : Option Exp). or_else r never_exp) same_leaving.0 ∙ sym (eu.endings h C ah),
      subst (Names f (Deeper (suc d)) (h ∷ C)) (sym (ev.endings h C ah)) (orelse (tree_of f v (h ∷ C) Leaving 0) same_leaving.1),
    )
      where
        low : rank h ≤ n
        low = let z = dn h [] ah in omega arith

        n_le : n ≤ suc n
        n_le = omega arith

        values : Valued (suc n) (Deeper (suc d))
        values b s l = let r = values_next b s l in (r.0, names_more f (D n) (Deeper (suc d)) (λ h B x. inl x) (f.around b) (v.value b s) r.1)

        ready : (F : List ℕ) (b : ℕ) → f.around b ≡ F ++ h ∷ C
            → Ready f rank shape compact top below_top (Deeper (suc d)) (suc n) n n_le (λ h B x. inl x) v u (equation_trees f v ev) (equation_trees f u eu) agree values (h ∷ C) F b
        ready F b ab = (
          dn b F ab,
          λ E l G z. (
            (shape.headers b l E (G ++ h ∷ C) (ab ∙ ap (λ (K : List ℕ). K ++ h ∷ C) z ∙ append_assoc E (l ∷ G) (h ∷ C))).0,
            inr ((λ c X ac. dn c (X ++ l ∷ G) (ac ∙ sym (append_assoc X (l ∷ G) (h ∷ C)))), (let o : length (G ++ h ∷ C) ≡ length G + length (h ∷ C) = length-append G (h ∷ C) in omega arith)),
          ),
        )

        orelse : (r : Option Exp) → NamesOf f rank shape compact top below_top (Deeper (suc d)) (suc n) n n_le (λ h B x. inl x) v u (equation_trees f v ev) (equation_trees f u eu) agree values (h ∷ C) r → Names f (Deeper (suc d)) (h ∷ C) (or_else r never_exp)
        orelse None p = tt
        orelse (Some y) p = p

        same_back : (s : ℕ) → (tree_of f v (h ∷ C) Back s ≡ tree_of f u (h ∷ C) Back s) × NamesOf f rank shape compact top below_top (Deeper (suc d)) (suc n) n n_le (λ h B x. inl x) v u (equation_trees f v ev) (equation_trees f u eu) agree values (h ∷ C) (tree_of f v (h ∷ C) Back s)
        same_back s = region_same f rank shape compact top below_top (Deeper (suc d)) (suc n) n n_le (λ h B x. inl x) v u (equation_trees f v ev) (equation_trees f u eu) agree values (h ∷ C) ready Back tt s [] h ah

        same_leaving : (tree_of f v (h ∷ C) Leaving 0 ≡ tree_of f u (h ∷ C) Leaving 0) × NamesOf f rank shape compact top below_top (Deeper (suc d)) (suc n) n n_le (λ h B x. inl x) v u (equation_trees f v ev) (equation_trees f u eu) agree values (h ∷ C) (tree_of f v (h ∷ C) Leaving 0)
        same_leaving = region_same f rank shape compact top below_top (Deeper (suc d)) (suc n) n n_le (λ h B x. inl x) v u (equation_trees f v ev) (equation_trees f u eu) agree values (h ∷ C) ready Leaving tt 0 [] h ah

    loops_deeper : (k d : ℕ) → deepest ≤ d + k → LoopsAgree f (Deeper d) v u
    unfolding LoopFacts
    loops_deeper zero d less h C ah (inl x) = facts_more (D n) (Deeper d) (λ h B x. inl x) h C (known.1 h C ah x)
    loops_deeper zero d less h C ah (inr x) = absurd (let z = deep h in let y = x.1 in let o : length (f.around h) ≡ length (h ∷ C) = ap length ah in omega arith)
    loops_deeper (suc k) d less h C ah x = go x (loops_deeper k (suc d) (omega arith))
      where
        order : (a b : ℕ) → a < b → (suc a < b) ⊎ (b ≡ suc a)
        order a b l = grind arith

        go : Deeper d h C → LoopsAgree f (Deeper (suc d)) v u → LoopFacts (Deeper d) h C
        go (inl x) agree = facts_more (D n) (Deeper d) (λ h B x. inl x) h C (known.1 h C ah x)
        go (inr x) agree = ⊎_elim
            (λ y. facts_more (Deeper (suc d)) (Deeper d) (deeper_more d) h C (agree h C ah (inr (x.0, y))))
            (λ y. facts_more (Deeper (suc d)) (Deeper d) (deeper_more d) h C (loop_facts d agree h C ah x.0 y))
            (order d (length (h ∷ C)) x.1)

    known_next : Known (suc n)
    unfolding LoopFacts
    known_next = (
      (λ b s l. let r = values_next b s l in (r.0, names_more f (D n) (D (suc n)) (done_more n (suc n) (omega arith)) (f.around b) (v.value b s) r.1)),
      (λ h C ah x. facts_more (Deeper 0) (D (suc n)) (λ l B y. ⊎_elim (λ z. done_more n (suc n) (omega arith) l B z) (λ z. z.0) y) h C (loops_deeper deepest 0 (omega arith) h C ah (inr (x, omega arith)))),
    )

  known : (n : ℕ) → Known n
  known zero = ((λ b s l. absurd (omega arith)), (λ h C ah x. absurd (let z = x h [] ah in omega arith)))
  known (suc n) = known_next n (known n)

  all_done : (h : ℕ) (B : List ℕ) → D top h B
  all_done h B c X a = below_top c

  -- UNIQUE: two solutions have the same values, and the same trees
  pub value_unique : (b s : ℕ) → v.value b s ≡ u.value b s
  value_unique b s = ((known top).0 b s (below_top b)).0

  pub tree_unique : (R : List ℕ) (t : Target) (s : ℕ) (F : List ℕ) (b : ℕ) → f.around b ≡ F ++ R → v.tree R t s F b ≡ u.tree R t s F b
  tree_unique R t s F b a = go t
    where
      ready : (F : List ℕ) (b : ℕ) → f.around b ≡ F ++ R → Ready f rank shape compact top below_top (D top) top top (le_refl top) (λ h B d. d) v u (equation_trees f v ev) (equation_trees f u eu) (known top).1 (known top).0 R F b
      ready F b a = (below_top b, λ E h K z. ((shape.headers b h E (K ++ R) (a ∙ ap (λ (J : List ℕ). J ++ R) z ∙ append_assoc E (h ∷ K) R)).0, all_done h (K ++ R)))

      go : (t : Target) → v.tree R t s F b ≡ u.tree R t s F b
      go (Node k) = (node_same f rank shape compact top below_top (D top) top top (le_refl top) (λ h B d. d) v u (equation_trees f v ev) (equation_trees f u eu) (known top).1 (known top).0 R k (let z = below_top k in omega arith) s F b a).0
      go Back = (region_same f rank shape compact top below_top (D top) top top (le_refl top) (λ h B d. d) v u (equation_trees f v ev) (equation_trees f u eu) (known top).1 (known top).0 R ready Back tt s F b a).0
      go Finish = (region_same f rank shape compact top below_top (D top) top top (le_refl top) (λ h B d. d) v u (equation_trees f v ev) (equation_trees f u eu) (known top).1 (known top).0 R ready Finish tt s F b a).0
      go Returning = (region_same f rank shape compact top below_top (D top) top top (le_refl top) (λ h B d. d) v u (equation_trees f v ev) (equation_trees f u eu) (known top).1 (known top).0 R ready Returning tt s F b a).0
      go Leaving = (region_same f rank shape compact top below_top (D top) top top (le_refl top) (λ h B d. d) v u (equation_trees f v ev) (equation_trees f u eu) (known top).1 (known top).0 R ready Leaving tt s F b a).0

  again_unique : (h s : ℕ) → v.again h s ≡ u.again h s
  again_unique h s = ⊎_elim (λ z. (((known top).1 h z.0 z.1 (all_done h z.0)).0 s).2) (λ z. (ev.no_loops h s z).1 ∙ sym (eu.no_loops h s z).1) (heads_dec (f.around h) h)

  entering_unique : (h s : ℕ) → v.entering h s ≡ u.entering h s
  entering_unique h s = ⊎_elim (λ z. (((known top).1 h z.0 z.1 (all_done h z.0)).0 s).0) (λ z. (ev.no_loops h s z).0 ∙ sym (eu.no_loops h s z).0) (heads_dec (f.around h) h)

  first_unique : (h s : ℕ) → first_kid v h s ≡ first_kid u h s
  first_unique h zero = refl
  first_unique h (suc s) = entering_unique h (suc s)

  form_unique : (e : Exp) → form_of f v e ≡ form_of f u e
  form_unique (Name h s) =
      ap (λ (a : Exp). Some (form (op.Theta (length (f.around h))) (a ∷ v.again h s ∷ []))) (first_unique h s)
      ∙ ap (λ (a : Exp). Some (form (op.Theta (length (f.around h))) (first_kid u h s ∷ a ∷ []))) (again_unique h s)
  form_unique (Over o es) = refl

  trees_unique : (m : ℕ) → ((e : Exp) → unfold_at (form_of f v) m e ≡ unfold_at (form_of f u) m e) → (es : List Exp) → trees_of es (unfold_at (form_of f v) m) ≡ trees_of es (unfold_at (form_of f u) m)
  trees_unique m h [] = refl
  trees_unique m h (e ∷ es) = ap (λ (t : Tree). trees.first t (trees_of es (unfold_at (form_of f v) m))) (h e) ∙ ap (trees.first (unfold_at (form_of f u) m e)) (trees_unique m h es)

  at_unique : (m : ℕ) → ((e : Exp) → unfold_at (form_of f v) m e ≡ unfold_at (form_of f u) m e) → (p : Option (Form Exp)) → tree_at p (unfold_at (form_of f v) m) ≡ tree_at p (unfold_at (form_of f u) m)
  at_unique m h None = refl
  at_unique m h (Some (form o es)) = ap (trees.over o) (trees_unique m h es)

  exp_unique : (m : ℕ) (e : Exp) → unfold_at (form_of f v) m e ≡ unfold_at (form_of f u) m e
  unfolding unfold_at
  exp_unique zero e = refl
  exp_unique (suc m) e = ap (λ (p : Option (Form Exp)). tree_at p (unfold_at (form_of f v) m)) (form_unique e) ∙ at_unique m (λ e. exp_unique m e) (form_of f u e)

  root_unique : (d : Exp) → root_of f v d ≡ root_of f u d
  root_unique d =
      let whole = sym (append-nil (f.around f.entry)) in
      let a = tree_unique [] Finish 0 (f.around f.entry) f.entry whole in
      let b = tree_unique [] Finish 1 (f.around f.entry) f.entry whole in
      let c = tree_unique [] Returning 2 (f.around f.entry) f.entry whole in
      let e = tree_unique [] Finish 3 (f.around f.entry) f.entry whole in
      cc

  -- .. and a node that unfolds as the root of one unfolds as that of the other
  pub unfolds_unique : (g : Graph) (r : ℕ) (d : Exp) → UnfoldsAs (form_at g.nodes) (form_of f v) r (root_of f v d) → UnfoldsAs (form_at g.nodes) (form_of f u) r (root_of f u d)
  unfolds_unique g r d h m = h m ∙ ap (unfold_at (form_of f v) m) (root_unique d) ∙ exp_unique m (root_of f u d)
