-- Two solutions of the equations of trees agree where their values do.
use Rattle.std.proofs.Common.{◌≡◌, ◌≢◌, ℕ, zero, suc, ◌+◌, ◌<◌, Bool, true, false, List, [], ◌∷◌, ◌++◌, length, ◌⊎◌, inl, inr, ⊎_elim, refl, sym, ap, ◌∙◌, subst, subst₂, length-append, arith, ◌==◌, if◌then◌else◌}
use Rattle.pv_equations.proofs.Words.{Op, In, open_kids, Exp, Exps, Name, Over, NoExp, Then, one, two, listed, Heads, Part, Parts, Slot, Of, NoPart, More, put, put_all, Flow, Values, outs, token_out, token_outs, FreeIn, theta, name, entered, begun, kid, unit_exp, AreTrees}
use Rattle.pv_graph.specs.declared.node.Op.TheVariants as op
use Rattle.pv_graph.specs.Ops as ops
use Rattle.pv_equations.specs.Exp.{made}

pub heads_dec : (A : List ℕ) (m : ℕ) → Heads A m ⊎ (Heads A m → ⊥)
heads_dec [] m = inr (λ z. let e = z.1 in absurd (cc))
heads_dec (k ∷ B) m = ⊎_elim (λ z. inl (B, ap (λ (k : ℕ). k ∷ B) z)) (λ z. inr (λ y. z (let e = y.1 in cc))) (dec k m)
  where
    dec : (a b : ℕ) → (a ≡ b) ⊎ (a ≢ b)
    dec a b = grind arith

pub counted_in : (d : ℕ) (s : ops.Shape) (ks : List Exp) (k : Exp) → In (open_kids d s ks) k → In ks k
counted_in d (ops.eval e) (a ∷ ks) k h = go (e == d) h
  where
    go : (t : Bool) → In (if t then ks else (a ∷ ks)) k → In (a ∷ ks) k
    go true h = inr h
    go false h = h
counted_in d (ops.pass e) ks k h = go (e == d) h
  where
    go : (t : Bool) → In (if t then [] else ks) k → In ks k
    go true h = absurd h
    go false h = h
counted_in d o ks k h = h

-- all blocks of the loop have ranks below n
abbrev pub Done : Flow → (ℕ → ℕ) → ℕ → ℕ → List ℕ → Type 0
Done f rank n h B = (c : ℕ) (X : List ℕ) → f.around c ≡ X ++ h ∷ B → rank c < n

-- each loop around a name is one of A, or one of K, those that are known
abbrev mutual
  pub Names : Flow → (ℕ → List ℕ → Type 0) → List ℕ → Exp → Type 0
  Names f K A (Name h s) = (X : List ℕ) (l : ℕ) (C : List ℕ) → f.around h ≡ X ++ l ∷ C → ((Y : List ℕ) × (A ≡ Y ++ l ∷ C)) ⊎ K l C
  Names f K A (Over o es) = AllNames f K A es

  pub AllNames : Flow → (ℕ → List ℕ → Type 0) → List ℕ → Exps → Type 0
  AllNames f K A NoExp = Unit {0}
  AllNames f K A (Then e es) = Names f K A e × AllNames f K A es

module _ (f : Flow) (K : ℕ → List ℕ → Type 0) where
  abbrev pub Under : List ℕ → List ℕ → Type 0
  Under A B = (X : List ℕ) (l : ℕ) (C : List ℕ) → A ≡ X ++ l ∷ C → ((Y : List ℕ) × (B ≡ Y ++ l ∷ C)) ⊎ K l C

  mutual
    pub names_under : (A B : List ℕ) → Under A B → (e : Exp) → Names f K A e → Names f K B e
    names_under A B u (Name h s) p = λ X l C z. ⊎_elim (λ y. u y.0 l C y.1) (λ y. inr y) (p X l C z)
    names_under A B u (Over o es) p = all_under A B u es p

    all_under : (A B : List ℕ) → Under A B → (es : Exps) → AllNames f K A es → AllNames f K B es
    all_under A B u NoExp p = tt
    all_under A B u (Then e es) p = (names_under A B u e p.0, all_under A B u es p.1)

  names_in : (A : List ℕ) (es : Exps) (k : Exp) → In (listed es) k → AllNames f K A es → Names f K A k
  names_in A NoExp k h p = absurd h
  names_in A (Then e es) k (inl h) p = subst (Names f K A) h p.0
  names_in A (Then e es) k (inr h) p = names_in A es k h p.1

  made_names : (A : List ℕ) (o : Op) (es : Exps) → AllNames f K A es → Names f K A (made o es)
  unfolding made
  made_names A op.Both (Then (Over op.Unit NoExp) (Then t NoExp)) p = p.1.0
  made_names A o es p = p

  mutual
    pub put_names : (A : List ℕ) (g : ℕ → Exp) → ((s : ℕ) → Names f K A (g s)) → (p : Part) → Names f K A (put g p)
    put_names A g h (Slot s) = h s
    put_names A g h (Of o p ps) = made_names A o (put_all g ps) (put_all_names A g h ps)

    put_all_names : (A : List ℕ) (g : ℕ → Exp) → ((s : ℕ) → Names f K A (g s)) → (ps : Parts) → AllNames f K A (put_all g ps)
    put_all_names A g h NoPart = tt
    put_all_names A g h (More p ps) = (put_names A g h p, put_all_names A g h ps)

  -- what two solutions know of the loops that are done
  abbrev pub LoopsAgree : Values → Values → Type 0
  LoopsAgree v u = (h : ℕ) (C : List ℕ) → f.around h ≡ h ∷ C → K h C
      → ((s : ℕ) → (v.entering h s ≡ u.entering h s) × Names f K C (v.entering h s) × (v.again h s ≡ u.again h s) × Names f K (h ∷ C) (v.again h s)) × (v.ending h ≡ u.ending h) × Names f K (h ∷ C) (v.ending h)

  pub loops_agree_sym : (v u : Values) → LoopsAgree v u → LoopsAgree u v
  loops_agree_sym v u a h C ah d =
      let r = a h C ah d in
      ((λ s. let q = r.0 s in (sym q.0, subst (Names f K C) q.0 q.1, sym q.2, subst (Names f K (h ∷ C)) q.2 q.3)), sym r.1, subst (Names f K (h ∷ C)) r.1 r.2)

  -- a loop around a name that is deeper than the loops A is done
  deep_done : (A : List ℕ) (h : ℕ) (C : List ℕ) → length A < length (f.around h) → f.around h ≡ h ∷ C → Names f K A (Name h 0) → K h C
  deep_done A h C less ah p = go (p [] h C ah)
    where
      go : ((Y : List ℕ) × (A ≡ Y ++ h ∷ C)) ⊎ K h C → K h C
      go (inl y) = absurd (let z : length A ≡ length y.0 + length (h ∷ C) = simp length-append at (ap length y.1) in let o : length (f.around h) ≡ length (h ∷ C) = ap length ah in omega arith)
      go (inr y) = y

  module _ (v u : Values) (tv : AreTrees f v) (tu : AreTrees f u) (agree : LoopsAgree v u) where
    free_to : (A : List ℕ) (e : Exp) → FreeIn f v (length A) e → Names f K A e → FreeIn f u (length A) e
    free_to A e (theta d es z) p = theta d es z
    free_to A e (name h s z) p = name h s z
    free_to A e (kid o es k i t) p = kid o es k i (free_to A k t (names_in A es k (counted_in (length A) (ops.shape o) (listed es) k i) p))
    free_to A e (entered h zero l t) p = entered h zero l (free_to A unit_exp t tt)
    free_to A e (entered h (suc s) l t) p = entered h (suc s) l (go (heads_dec (f.around h) h) (λ q. free_to A (v.entering h (suc s)) t q))
      where
        go : Heads (f.around h) h ⊎ (Heads (f.around h) h → ⊥) → (Names f K A (v.entering h (suc s)) → FreeIn f u (length A) (v.entering h (suc s))) → FreeIn f u (length A) (u.entering h (suc s))
        go (inl z) rec =
            let r = (agree h z.0 z.1 (deep_done A h z.0 l z.1 p)).0 (suc s) in
            subst (FreeIn f u (length A)) r.0 (rec (names_under z.0 A (λ X k C y. p (h ∷ X) k C (z.1 ∙ ap (λ (K : List ℕ). h ∷ K) y)) (v.entering h (suc s)) r.1))
        go (inr z) rec =
            let e = (tv.no_loops h (suc s) z).0 in
            subst (FreeIn f u (length A)) (e ∙ sym (tu.no_loops h (suc s) z).0) (rec (subst (Names f K A) (sym e) tt))
    free_to A e (begun h s l t) p = begun h s l (go (heads_dec (f.around h) h) (λ q. free_to A (v.again h s) t q))
      where
        go : Heads (f.around h) h ⊎ (Heads (f.around h) h → ⊥) → (Names f K A (v.again h s) → FreeIn f u (length A) (v.again h s)) → FreeIn f u (length A) (u.again h s)
        go (inl z) rec =
            let r = (agree h z.0 z.1 (deep_done A h z.0 l z.1 p)).0 s in
            subst (FreeIn f u (length A)) r.2 (rec (names_under (h ∷ z.0) A (λ X k C y. p X k C (z.1 ∙ y)) (v.again h s) r.3))
        go (inr z) rec =
            let e = (tv.no_loops h s z).1 in
            subst (FreeIn f u (length A)) (e ∙ sym (tu.no_loops h s z).1) (rec (subst (Names f K A) (sym e) tt))

  module _ (v u : Values) (tv : AreTrees f v) (tu : AreTrees f u) (agree : LoopsAgree v u) where
    leave_under : (h : ℕ) (B : List ℕ) → K h B → Under (h ∷ B) B
    leave_under h B d [] l C z = inr (subst₂ (λ (l : ℕ) (C : List ℕ). K l C) (let q : h ≡ l = cc in q) (let q : B ≡ C = cc in q) d)
    leave_under h B d (k ∷ X) l C z = inl (X, (let q : B ≡ X ++ l ∷ C = cc in q))

    abbrev Taken : ℕ → Exp → Exp
    Taken h x = Over (op.Eval (length (f.around h))) (two x (Over (op.Pass (length (f.around h))) (one (v.ending h))))

    -- taking out of a loop that is done
    pub out_same : (h : ℕ) (B : List ℕ) → f.around h ≡ h ∷ B → K h B → (x : Exp) → Names f K (h ∷ B) x → (v.out h x ≡ u.out h x) × Names f K B (v.out h x)
    out_same h B ah d x p = go (tv.outs_are h x B ah) (tu.outs_are h x B ah)
      where
        en : v.ending h ≡ u.ending h
        en = (agree h B ah d).1

        p' : Names f K B x
        p' = names_under (h ∷ B) B (leave_under h B d) x p

        pe : Names f K B (v.ending h)
        pe = names_under (h ∷ B) B (leave_under h B d) (v.ending h) (agree h B ah d).2

        E : Exp → Exp
        E y = Over (op.Eval (length (h ∷ B))) (two x (Over (op.Pass (length (h ∷ B))) (one y)))

        go : (FreeIn f v (length (h ∷ B)) x × (v.out h x ≡ Over (op.Eval (length (h ∷ B))) (two x (Over (op.Pass (length (h ∷ B))) (one (v.ending h)))))) ⊎ ((FreeIn f v (length (h ∷ B)) x → ⊥) × (v.out h x ≡ x))
            → (FreeIn f u (length (h ∷ B)) x × (u.out h x ≡ Over (op.Eval (length (h ∷ B))) (two x (Over (op.Pass (length (h ∷ B))) (one (u.ending h)))))) ⊎ ((FreeIn f u (length (h ∷ B)) x → ⊥) × (u.out h x ≡ x))
            → (v.out h x ≡ u.out h x) × Names f K B (v.out h x)
        go (inl a) (inl b) = (a.1 ∙ ap (λ (y : Exp). Over (op.Eval (length (h ∷ B))) (two x (Over (op.Pass (length (h ∷ B))) (one y)))) en ∙ sym b.1, subst (Names f K B) (sym a.1) (p', ((pe, tt), tt)))
        go (inr a) (inr b) = (a.1 ∙ sym b.1, subst (Names f K B) (sym a.1) p')
        go (inl a) (inr b) = absurd (b.0 (free_to v u tv tu agree (h ∷ B) x a.0 p))
        go (inr a) (inl b) = absurd (a.0 (free_to u v tu tv (loops_agree_sym v u agree) (h ∷ B) x b.0 p))

    -- loops that are all done
    abbrev pub AllDone : List ℕ → List ℕ → Type 0
    AllDone F R = (E : List ℕ) (h : ℕ) (G : List ℕ) → F ≡ E ++ h ∷ G → (f.around h ≡ h ∷ (G ++ R)) × K h (G ++ R)

    pub outs_same : (F R : List ℕ) → AllDone F R → (x y : Exp) → x ≡ y → Names f K (F ++ R) x → (outs v F x ≡ outs u F y) × Names f K R (outs v F x)
    outs_same [] R a x y e p = (e, p)
    outs_same (h ∷ F) R a x y e p =
        let d = a [] h F refl in
        let o = out_same h (F ++ R) d.0 d.1 x p in
        outs_same F R (λ E k G z. a (h ∷ E) k G (ap (λ (K : List ℕ). h ∷ K) z)) (v.out h x) (u.out h y) (o.0 ∙ ap (λ (y : Exp). u.out h y) e) o.1

    token_same : (h : ℕ) (B : List ℕ) → f.around h ≡ h ∷ B → K h B → (x : Exp) → Names f K (h ∷ B) x → (token_out v f h x ≡ token_out u f h x) × Names f K B (token_out v f h x)
    token_same h B ah d x p =
        let r = agree h B ah d in
        let en = r.1 in
        let ent = (r.0 0).0 in (
          ap (λ (y : Exp). made op.Both (two (v.entering h 0) (Over (op.Eval (length (f.around h))) (two x (Over (op.Pass (length (f.around h))) (one y)))))) en
              ∙ ap (λ (y : Exp). made op.Both (two y (Over (op.Eval (length (f.around h))) (two x (Over (op.Pass (length (f.around h))) (one (u.ending h))))))) ent,
          made_names B op.Both _ ((r.0 0).1, ((names_under (h ∷ B) B (leave_under h B d) x p, ((names_under (h ∷ B) B (leave_under h B d) (v.ending h) r.2, tt), tt)), tt)),
        )

    pub tokens_same : (F R : List ℕ) → AllDone F R → (x y : Exp) → x ≡ y → Names f K (F ++ R) x → (token_outs v f F x ≡ token_outs u f F y) × Names f K R (token_outs v f F x)
    tokens_same [] R a x y e p = (e, p)
    tokens_same (h ∷ F) R a x y e p =
        let d = a [] h F refl in
        let o = token_same h (F ++ R) d.0 d.1 x p in
        tokens_same F R (λ E k G z. a (h ∷ E) k G (ap (λ (K : List ℕ). h ∷ K) z)) (token_out v f h x) (token_out u f h y) (o.0 ∙ ap (λ (y : Exp). token_out u f h y) e) o.1
