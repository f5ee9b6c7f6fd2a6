-- In a value at a block no depth is free but those of the loops around it; so `free` sees all.
use Rattle.std.proofs.Common.{◌≡◌, ◌≢◌, ℕ, zero, suc, ◌+◌, ◌<◌, ◌≤◌, Bool, true, false, pos, List, [], ◌∷◌, ◌++◌, length, Option, Some, None, ◌⊎◌, inl, inr, ⊎_elim, refl, sym, ap, ◌∙◌, subst, append-nil, append_assoc, arith, ◌==◌, if◌then◌else◌, le_refl}
use Rattle.pv_equations.proofs.Words.{Op, In, open_kids, Exp, Exps, Name, Over, NoExp, Then, one, two, three, listed, Heads, Part, Parts, Slot, Of, NoPart, More, put, put_all, Return, Throw, Exit, Chain, Leave, Test, InChain, Flow, Shape, Target, Node, Back, Finish, Returning, Leaving, Place, On, Header, Gone, Ended, Seen, Joins, IsChain, Values, outs, token_out, token_outs, leaf, AtPlace, IsExit, IsTree, first_of_region, first_loops, tree_of, Given, FreeIn, theta, name, entered, begun, kid, never_exp, true_exp, false_exp, AreEquations, first_kid}
use Rattle.std.proofs.lemmas.Bool.Decides.{nat_tests}
use Rattle.pv_graph.specs.declared.node.Op.TheVariants as op
use Rattle.pv_graph.specs.Ops as ops
use Rattle.pv_equations.specs.Exp.{made}
use Rattle.pv_equations.proofs.Seen.{Later, seen_to}
use Rattle.pv_equations.proofs.Walks.{on_rank}
use Rattle.pv_equations.proofs.Free.{FreeAll}

dec : (a b : ℕ) → (a ≡ b) ⊎ (a ≢ b)
dec a b = grind arith

not_same : (a b : ℕ) → (a == b) ≡ false → a ≢ b
not_same a b h = grind (arith, nat_tests)

heads_dec : (A : List ℕ) (m : ℕ) → Heads A m ⊎ (Heads A m → ⊥)
heads_dec [] m = inr (λ z. let e = z.1 in absurd (cc))
heads_dec (k ∷ B) m = ⊎_elim (λ z. inl (B, ap (λ (k : ℕ). k ∷ B) z)) (λ z. inr (λ y. z (let e = y.1 in cc))) (dec k m)

in_counted : (t : Bool) (a k : Exp) (ks : List Exp) → In (if t then ks else a ∷ ks) k → (In ks k) ⊎ ((t ≡ false) × (a ≡ k))
in_counted true a k ks h = inl h
in_counted false a k ks (inl h) = inr (refl, h)
in_counted false a k ks (inr h) = inl h

in_passed : (t : Bool) (a k : Exp) → In (if t then [] else a ∷ []) k → (t ≡ false) × (a ≡ k)
in_passed true a k h = absurd h
in_passed false a k (inl h) = (refl, h)
in_passed false a k (inr h) = absurd h

joined_some : (c : Exp) (a b : Option Exp) (y : Exp) → Joins c a b (Some y) → (a ≡ Some y) ⊎ ((b ≡ Some y) ⊎ ((u : Exp) × (z : Exp) × (a ≡ Some u) × (b ≡ Some z) × (y ≡ Over op.Phi (three c u z))))
joined_some c None b y h = inr (inl (sym h))
joined_some c (Some a) None y h = inl (sym h)
joined_some c (Some a) (Some b) y (inl h) = inl (sym h.1)
joined_some c (Some a) (Some b) y (inr h) = inr (inr (a, b, refl, refl, (let z = h.1 in cc)))

module _ (f : Flow) (v : Values) (rank : ℕ → ℕ) (eqs : AreEquations f v) (shape : Shape f rank) (top : ℕ) (below_top : (b : ℕ) → rank b < top) where
  abbrev FA : ℕ → ℕ → Exp → Type 0
  FA d n e = FreeAll f v d n e

  abbrev IsTheta : ℕ → Op → Type 0
  IsTheta d o = ops.shape o ≡ ops.theta d

  abbrev FreeSays : ℕ → ℕ → Exp → Type 0
  FreeSays d n (Name h s) = (m : ℕ) × (n ≡ suc m) × FA d m (Over (op.Theta (length (f.around h))) (two (first_kid v h s) (v.again h s)))
  FreeSays d n (Over o es) = IsTheta d o ⊎ ((m : ℕ) × (k : Exp) × (n ≡ suc m) × In (open_kids d (ops.shape o) (listed es)) k × FA d m k)

  free_says : (d n : ℕ) (e : Exp) → FA d n e → FreeSays d n e
  free_says d n e (FreeAll.here m o es z) = inl z
  free_says d n e (FreeAll.named m h s t) = (m, refl, t)
  free_says d n e (FreeAll.kid m o es k p t) = inr (m, k, refl, p, t)

  not_theta : (o : Op) (d : ℕ) → ops.shape o ≡ ops.plain → ops.shape o ≡ ops.theta d → ⊥
  not_theta o d p q = absurd (cc)

  no_free : (o : Op) → ops.shape o ≡ ops.plain → (d n : ℕ) → FA d n (Over o NoExp) → ⊥
  no_free o p d n h = ⊎_elim (λ z. not_theta o d p z) (λ z. subst (λ (s : ops.Shape). In (open_kids d s []) z.1) p z.3) (free_says d n _ h)

  made_free : (o : Op) → ops.shape o ≡ ops.plain → (es : Exps) (d n : ℕ) → FA d n (made o es) → (k : Exp) × (m : ℕ) × (m ≤ n) × In (listed es) k × FA d m k
  unfolding made
  made_free op.Both p (Then (Over op.Unit NoExp) (Then t NoExp)) d n h = (t, n, le_refl n, inr (inl refl), h)
  made_free o p es d n h = ⊎_elim (λ z. absurd (not_theta o d p z)) (λ z. (z.1, z.0, (let e = z.2 in omega arith), subst (λ (s : ops.Shape). In (open_kids d s (listed es)) z.1) p z.3, z.4)) (free_says d n (Over o es) h)

  two_free : (a t : Exp) (d n : ℕ) → FA d n (made op.Both (two a t)) → ((m : ℕ) × (m < n) × FA d m a) ⊎ ((m : ℕ) × (m ≤ n) × FA d m t)
  unfolding made
  two_free (Over op.Unit NoExp) t d n h = inr (n, le_refl n, h)
  two_free a t d n h = ⊎_elim (λ z. absurd (not_theta op.Both d refl z)) (λ z. kids z.0 z.1 (let e = z.2 in omega arith) z.3 z.4) (free_says d n (Over op.Both (two a t)) h)
    where
      kids : (m : ℕ) (k : Exp) → m < n → In (a ∷ t ∷ []) k → FA d m k → ((m : ℕ) × (m < n) × FA d m a) ⊎ ((m : ℕ) × (m ≤ n) × FA d m t)
      kids m k l (inl e) h = inl (m, l, subst (FA d m) (sym e) h)
      kids m k l (inr (inl e)) h = inr (m, (omega arith), subst (FA d m) (sym e) h)
      kids m k l (inr (inr e)) h = absurd e

  mutual
    put_free : (g : ℕ → Exp) (p : Part) (d n : ℕ) → FA d n (put g p) → (s : ℕ) × (m : ℕ) × (m ≤ n) × FA d m (g s)
    put_free g (Slot s) d n h = (s, n, le_refl n, h)
    put_free g (Of o p ps) d n h =
        let r = made_free o p (put_all g ps) d n h in
        let q = put_all_free g ps d r.1 r.0 r.3 r.4 in
        (q.0, q.1, (let a = r.2 in let b = q.2 in omega arith), q.3)

    put_all_free : (g : ℕ → Exp) (ps : Parts) (d n : ℕ) (k : Exp) → In (listed (put_all g ps)) k → FA d n k → (s : ℕ) × (m : ℕ) × (m ≤ n) × FA d m (g s)
    put_all_free g NoPart d n k i h = absurd i
    put_all_free g (More p ps) d n k (inl i) h = put_free g p d n (subst (FA d n) (sym i) h)
    put_all_free g (More p ps) d n k (inr i) h = put_all_free g ps d n k i h

  -- what holds of expressions with at most n steps
  abbrev TreeLevel : ℕ → Type 0
  TreeLevel n = (R : List ℕ) (t : Target) (s : ℕ) (F : List ℕ) (b : ℕ) (y : Exp) (d : ℕ) → f.around b ≡ F ++ R → v.tree R t s F b ≡ Some y → FA d n y → d ≤ length R

  abbrev ValueLevel : ℕ → Type 0
  ValueLevel n = (b s d : ℕ) → FA d n (v.value b s) → d ≤ length (f.around b)

  abbrev Seen_all : ℕ → Type 0
  Seen_all n = (a : Exp) (d : ℕ) → FA d n a → FreeIn f v d a

  abbrev Level : ℕ → Type 0
  Level n = TreeLevel n × ValueLevel n × Seen_all n

  given_level : (r : Option Exp) (a : Exp) (d n l : ℕ) → Given r a → ((y : Exp) → r ≡ Some y → FA d n y → d ≤ l) → FA d n a → d ≤ l
  given_level None a d n l g p h = absurd (no_free op.Never refl d n (subst (FA d n) g h))
  given_level (Some y) a d n l g p h = p y refl (subst (FA d n) g h)

  first_around : (b : ℕ) (P B : List ℕ) → f.around b ≡ P ++ B → f.around (first_of_region f B) ≡ first_loops f B ++ B
  first_around b P [] a = sym (append-nil (f.around f.entry))
  first_around b P (k ∷ B) a = (shape.headers b k P B a).0

  entering_level : (n : ℕ) → ((t : ℕ) (R : List ℕ) (s : ℕ) (F : List ℕ) (b : ℕ) (y : Exp) (d : ℕ) → f.around b ≡ F ++ R → v.tree R (Node t) s F b ≡ Some y → FA d n y → d ≤ length R)
      → (h s d : ℕ) (B : List ℕ) → f.around h ≡ h ∷ B → FA d n (v.entering h s) → d ≤ length B
  entering_level n tl h s d B ah z = go (dec h f.entry)
    where
      go : (h ≡ f.entry) ⊎ (h ≢ f.entry) → d ≤ length B
      go (inl e) = absurd (no_free (f.start s) (f.start_plain s) d n (subst (FA d n) (ap (λ (h : ℕ). v.entering h s) e ∙ eqs.first_entries s (B, subst (λ (h : ℕ). f.around h ≡ h ∷ B) e ah)) z))
      go (inr e) = given_level _ _ d n (length B) (eqs.entries h s B ah e) (λ y q t. tl h B s (first_loops f B) (first_of_region f B) y d (first_around h (h ∷ []) B ah) q t) z

  again_level : (n : ℕ) → TreeLevel n → (h s d : ℕ) (B : List ℕ) → f.around h ≡ h ∷ B → FA d n (v.again h s) → d ≤ length (h ∷ B)
  again_level n tl h s d B ah z = given_level _ _ d n (length (h ∷ B)) (eqs.agains h s B ah) (λ y q t. tl (h ∷ B) Back s [] h y d ah q t) z

  ending_level : (n : ℕ) → TreeLevel n → (h d : ℕ) (B : List ℕ) → f.around h ≡ h ∷ B → FA d n (v.ending h) → d ≤ length (h ∷ B)
  ending_level n tl h d B ah z = given_level _ _ d n (length (h ∷ B)) (eqs.endings h B ah) (λ y q t. tl (h ∷ B) Leaving 0 [] h y d ah q t) z

  -- a name
  name_level : (n : ℕ) → ((m : ℕ) → m < n → TreeLevel m) → (h s d : ℕ) → FA d n (Name h s) → d ≤ length (f.around h)
  name_level n tl h s d z = one' (free_says d n (Name h s) z)
    where
      first : (s : ℕ) (m : ℕ) → m < n → FA d m (first_kid v h s) → d ≤ length (f.around h)
      first zero m l t = absurd (no_free op.Unit refl d m t)
      first (suc s) m l t = ⊎_elim
          (λ y. let r = entering_level m (λ t R. tl m l R (Node t)) h (suc s) d y.0 y.1 t in let o : length (f.around h) ≡ suc (length y.0) = ap length y.1 in omega arith)
          (λ y. absurd (no_free op.Never refl d m (subst (FA d m) (eqs.no_loops h (suc s) y).0 t))) (heads_dec (f.around h) h)

      second : (m : ℕ) → m < n → FA d m (v.again h s) → d ≤ length (f.around h)
      second m l t = ⊎_elim
          (λ y. let r = again_level m (tl m l) h s d y.0 y.1 t in let o : length (f.around h) ≡ suc (length y.0) = ap length y.1 in omega arith)
          (λ y. absurd (no_free op.Never refl d m (subst (FA d m) (eqs.no_loops h s y).1 t))) (heads_dec (f.around h) h)

      kids : (m : ℕ) (k : Exp) → m < n → In (first_kid v h s ∷ v.again h s ∷ []) k → FA d m k → d ≤ length (f.around h)
      kids m k l (inl e) t = first s m l (subst (FA d m) (sym e) t)
      kids m k l (inr (inl e)) t = second m l (subst (FA d m) (sym e) t)
      kids m k l (inr (inr e)) t = absurd e

      one' : FreeSays d n (Name h s) → d ≤ length (f.around h)
      one' (m, e, t) = ⊎_elim (λ y. let o : length (f.around h) ≡ d = (let q = y in cc) in omega arith) (λ y. kids y.0 y.1 (let a = y.2 in omega arith) y.3 y.4) (free_says d m _ t)

  -- what is free is seen as free
  seen_all : (n : ℕ) → ((m : ℕ) → m < n → Level m) → Seen_all n
  seen_all n ih a d z = go a (free_says d n a z) z
    where
      go : (a : Exp) → FreeSays d n a → FA d n a → FreeIn f v d a
      go (Over o es) (inl y) z = theta o es y
      go (Over o es) (inr (m, k, e, i, t)) z = kid o es k i ((ih m (omega arith)).2 k d t)
      go (Name h s) (m, e, t) z = ⊎_elim (λ y. name h s (let q = y in cc)) (λ y. kids y.0 y.1 (let q = y.2 in omega arith) y.3 y.4) (free_says d m _ t)
        where
          le : d ≤ length (f.around h)
          le = name_level n (λ m l. (ih m l).0) h s d z

          first : (s : ℕ) (m : ℕ) → m < n → FA d m (first_kid v h s) → (length (f.around h) ≡ d) ⊎ (d < length (f.around h)) → FreeIn f v d (Name h s)
          first zero m l t c = absurd (no_free op.Unit refl d m t)
          first (suc s) m l t (inl c) = name h (suc s) c
          first (suc s) m l t (inr c) = entered h (suc s) c ((ih m l).2 _ d t)

          second : (m : ℕ) → m < n → FA d m (v.again h s) → (length (f.around h) ≡ d) ⊎ (d < length (f.around h)) → FreeIn f v d (Name h s)
          second m l t (inl c) = name h s c
          second m l t (inr c) = begun h s c ((ih m l).2 _ d t)

          order : (a b : ℕ) → a ≤ b → (b ≡ a) ⊎ (a < b)
          order a b l = grind arith

          kids : (m : ℕ) (k : Exp) → m < n → In (first_kid v h s ∷ v.again h s ∷ []) k → FA d m k → FreeIn f v d (Name h s)
          kids m k l (inl e) t = first s m l (subst (FA d m) (sym e) t) (order d (length (f.around h)) le)
          kids m k l (inr (inl e)) t = second m l (subst (FA d m) (sym e) t) (order d (length (f.around h)) le)
          kids m k l (inr (inr e)) t = absurd e

  module _ (n : ℕ) (ih : (m : ℕ) → m < n → Level m) where
    all_seen : (m : ℕ) → m ≤ n → Seen_all m
    all_seen m l = ⊎_elim (λ z. (ih m z).2) (λ z. subst Seen_all (sym z) (seen_all n ih)) (order m n l)
      where
        order : (a b : ℕ) → a ≤ b → (a < b) ⊎ (a ≡ b)
        order a b l = grind arith

    abbrev LevelOf : ℕ → Exp → Type 0
    LevelOf l x = (m d : ℕ) → m ≤ n → FA d m x → d ≤ l

    pass_level : (h : ℕ) (B : List ℕ) → f.around h ≡ h ∷ B → (m d : ℕ) → m < n → FA d m (Over (op.Pass (length (h ∷ B))) (one (v.ending h))) → d ≤ length B
    pass_level h B ah m d l z = ⊎_elim (λ y. absurd (let q = y in cc))
        (λ y. let q = in_passed (length (h ∷ B) == d) (v.ending h) y.1 y.3 in
        let ne = not_same (length (h ∷ B)) d q.0 in
        let r = ending_level y.0 (ih y.0 (let e = y.2 in omega arith)).0 h d B ah (subst (FA d y.0) (sym q.1) y.4) in omega arith)
        (free_says d m _ z)

    eval_level : (h : ℕ) (B : List ℕ) (x : Exp) → f.around h ≡ h ∷ B → LevelOf (length (h ∷ B)) x → LevelOf (length B) (Over (op.Eval (length (h ∷ B))) (two x (Over (op.Pass (length (h ∷ B))) (one (v.ending h)))))
    eval_level h B x ah lev m d l z = ⊎_elim (λ y. absurd (let q = y in cc)) (λ y. kids y.0 y.1 (let e = y.2 in omega arith) (in_counted (length (h ∷ B) == d) x y.1 _ y.3) y.4) (free_says d m _ z)
      where
        kids : (k : ℕ) (c : Exp) → k < n → In (Over (op.Pass (length (h ∷ B))) (one (v.ending h)) ∷ []) c ⊎ (((length (h ∷ B) == d) ≡ false) × (x ≡ c)) → FA d k c → d ≤ length B
        kids k c less (inl (inl e)) t = pass_level h B ah k d less (subst (FA d k) (sym e) t)
        kids k c less (inl (inr e)) t = absurd e
        kids k c less (inr y) t = let ne = not_same (length (h ∷ B)) d y.0 in let r = lev k d (omega arith) (subst (FA d k) (sym y.1) t) in omega arith

    out_level : (h : ℕ) (B : List ℕ) (x : Exp) → f.around h ≡ h ∷ B → LevelOf (length (h ∷ B)) x → LevelOf (length B) (v.out h x)
    out_level h B x ah lev m d l z = ⊎_elim
        (λ y. eval_level h B x ah lev m d l (subst (FA d m) y.1 z))
        (λ y. let t = subst (FA d m) y.1 z in let r = lev m d l t in ⊎_elim (λ c. absurd (y.0 (subst (λ (d : ℕ). FreeIn f v d x) c (all_seen m l x d t)))) (λ c. omega arith) (dec d (length (h ∷ B))))
        (eqs.outs_are h x B ah)

    token_level : (h : ℕ) (B : List ℕ) (x : Exp) → f.around h ≡ h ∷ B → LevelOf (length (h ∷ B)) x → LevelOf (length B) (token_out v f h x)
    token_level h B x ah lev m d l z = kids (two_free _ _ d m (subst (λ (A : List ℕ). FA d m (made op.Both (two (v.entering h 0) (Over (op.Eval (length A)) (two x (Over (op.Pass (length A)) (one (v.ending h)))))))) ah z))
      where
        kids : ((j : ℕ) × (j < m) × FA d j (v.entering h 0)) ⊎ ((j : ℕ) × (j ≤ m) × FA d j (Over (op.Eval (length (h ∷ B))) (two x (Over (op.Pass (length (h ∷ B))) (one (v.ending h)))))) → d ≤ length B
        kids (inl y) = entering_level y.0 (λ t R. (ih y.0 (let e = y.1 in omega arith)).0 R (Node t)) h 0 d B ah y.2
        kids (inr y) = eval_level h B x ah lev y.0 d (let e = y.1 in omega arith) y.2

    outs_level : (F : List ℕ) (R P : List ℕ) (b : ℕ) (x : Exp) → f.around b ≡ P ++ (F ++ R) → LevelOf (length (F ++ R)) x → LevelOf (length R) (outs v F x)
    outs_level [] R P b x a lev = lev
    outs_level (h ∷ F) R P b x a lev = outs_level F R (P ++ h ∷ []) b (v.out h x) (a ∙ sym (append_assoc P (h ∷ []) (F ++ R))) (out_level h (F ++ R) x (shape.headers b h P (F ++ R) a).0 lev)

    tokens_level : (F : List ℕ) (R P : List ℕ) (b : ℕ) (x : Exp) → f.around b ≡ P ++ (F ++ R) → LevelOf (length (F ++ R)) x → LevelOf (length R) (token_outs v f F x)
    tokens_level [] R P b x a lev = lev
    tokens_level (h ∷ F) R P b x a lev = tokens_level F R (P ++ h ∷ []) b (token_out v f h x) (a ∙ sym (append_assoc P (h ∷ []) (F ++ R))) (token_level h (F ++ R) x (shape.headers b h P (F ++ R) a).0 lev)

    -- trees for targets below a rank, where the values at the leaves are known
    abbrev Known : Target → Type 0
    Known t = (b s m d : ℕ) → Later rank t b → m ≤ n → FA d m (v.value b s) → d ≤ length (f.around b)

    exit_kind : (R : List ℕ) (t : Target) (s : ℕ) (F : List ℕ) (b : ℕ) (e : Exit) (p : Place) (z : Exp) → f.around b ≡ F ++ R → InChain (f.chain b) e → Seen f R F e.dest p → AtPlace f v R t s F b e p (Some z)
        → ((Later rank t b) × (z ≡ leaf v f F b e s)) ⊎ (((z ≡ true_exp) ⊎ (z ≡ false_exp)) ⊎ ((G : List ℕ) × (m : ℕ) × (p ≡ On G m) × (v.tree R t s G m ≡ Some z)))
    exit_kind R (Node k) s F b e (On G m) z a c q (inl h) = inl (subst (λ (k : ℕ). rank b < rank k) h.1 (on_rank f rank shape R F b e G m a c q), let y = h.2 in cc)
    exit_kind R (Node k) s F b e (On G m) z a c q (inr h) = inr (inr (G, m, refl, sym h.1))
    exit_kind R Back s F b e (On G m) z a c q h = inr (inr (G, m, refl, sym h))
    exit_kind R Finish s F b e (On G m) z a c q h = inr (inr (G, m, refl, sym h))
    exit_kind R Returning s F b e (On G m) z a c q h = inr (inr (G, m, refl, sym h))
    exit_kind R Leaving s F b e (On G m) z a c q h = inr (inr (G, m, refl, sym h))
    exit_kind R Back s F b e Header z a c q h = inl (tt, cc)
    exit_kind R Leaving s F b e Header z a c q h = inr (inl (inr (cc)))
    exit_kind R Leaving s F b e Gone z a c q h = inr (inl (inl (cc)))
    exit_kind R Leaving s F b e (Ended k) z a c q h = inr (inl (inl (cc)))
    exit_kind [] Finish s F b e (Ended k) z a c q h = inl (tt, cc)
    exit_kind [] Returning s F b e (Ended Return) z a c q h = inl (tt, cc)
    exit_kind [] Returning s F b e (Ended Throw) z a c q h = absurd (cc)
    exit_kind [] t s F b e p z a c q h = absurd (cc)
    exit_kind (r ∷ R) t s F b e p z a c q h = absurd (cc)

    part_level : (b : ℕ) (p : Part) (A : List ℕ) → f.around b ≡ A → ((s m d : ℕ) → m ≤ n → FA d m (v.value b s) → d ≤ length (f.around b)) → LevelOf (length A) (put (v.value b) p)
    part_level b p A a known m d l z =
        let r = put_free (v.value b) p d m z in
        subst (λ (A : List ℕ). d ≤ length A) a (known r.0 r.1 d (let e = r.2 in omega arith) r.3)

    leaf_level : (R F : List ℕ) (b : ℕ) (e : Exit) (s : ℕ) → f.around b ≡ F ++ R → ((s m d : ℕ) → m ≤ n → FA d m (v.value b s) → d ≤ length (f.around b)) → LevelOf (length R) (leaf v f F b e s)
    leaf_level R F b e zero a known = tokens_level F R [] b (put (v.value b) (e.slots 0)) a (part_level b (e.slots 0) (F ++ R) a known)
    leaf_level R F b e (suc s) a known = outs_level F R [] b (put (v.value b) (e.slots (suc s))) a (part_level b (e.slots (suc s)) (F ++ R) a known)

    chain_level : (X : Exit → Option Exp → Type 0) (c : Part → Exp) (l : ℕ) (ch : Chain) → ((e : Exit) (z : Exp) → InChain ch e → X e (Some z) → LevelOf l z) → ((p : Part) (m d : ℕ) → m < n → FA d m (c p) → d ≤ l)
        → (y : Exp) → IsChain X c ch (Some y) → LevelOf l y
    chain_level X c l (Leave e) exits tests y h = exits e y refl h
    chain_level X c l (Test t e rest) exits tests y h =
        sides (joined_some (c t) h.0 h.1 y h.4) (λ z q. chain_level X c l rest (λ e z i. exits e z (inr i)) tests z (subst (IsChain X c rest) q h.3))
      where
        sides : (h.0 ≡ Some y) ⊎ ((h.1 ≡ Some y) ⊎ ((u : Exp) × (z : Exp) × (h.0 ≡ Some u) × (h.1 ≡ Some z) × (y ≡ Over op.Phi (three (c t) u z)))) → ((z : Exp) → h.1 ≡ Some z → LevelOf l z) → LevelOf l y
        sides (inl q) other m d less w = exits e y (inl refl) (subst (X e) q h.2) m d less w
        sides (inr (inl q)) other m d less w = other y q m d less w
        sides (inr (inr (u, z, p, q, r))) other m d less w = ⊎_elim (λ b. absurd (let q = b in cc)) (λ b. kids b.0 b.1 (let a = b.2 in omega arith) b.3 b.4) (free_says d m _ (subst (FA d m) r w))
          where
            kids : (k : ℕ) (g : Exp) → k < n → In (c t ∷ u ∷ z ∷ []) g → FA d k g → d ≤ l
            kids k g less (inl a) w = tests t k d less (subst (FA d k) (sym a) w)
            kids k g less (inr (inl a)) w = exits e u (inl refl) (subst (X e) p h.2) k d (omega arith) (subst (FA d k) (sym a) w)
            kids k g less (inr (inr (inl a))) w = other z q k d (omega arith) (subst (FA d k) (sym a) w)
            kids k g less (inr (inr (inr a))) w = absurd a

    tree_level : ((R F : List ℕ) (b : ℕ) (p : Part) → f.around b ≡ F ++ R → (m d : ℕ) → m < n → FA d m (outs v F (put (v.value b) p)) → d ≤ length R)
        → (N : ℕ) (R : List ℕ) (t : Target) (s : ℕ) (F : List ℕ) (b : ℕ) (y : Exp) → Known t → top ≤ rank b + N → f.around b ≡ F ++ R → v.tree R t s F b ≡ Some y → LevelOf (length R) y
    tree_level test zero R t s F b y known less a q = absurd (let z = below_top b in omega arith)
    tree_level test (suc N) R t s F b y known less a q = pick (subst (IsTree f v R t s F b) q (eqs.trees R t s F b a)) (λ G m z l am e. tree_level test N R t s G m z known l am e)
      where
        pick : IsTree f v R t s F b (Some y) → ((G : List ℕ) (m : ℕ) (z : Exp) → top ≤ rank m + N → f.around m ≡ G ++ R → v.tree R t s G m ≡ Some z → LevelOf (length R) z) → LevelOf (length R) y
        pick (inl z) rec m d l w = absurd (no_free op.Never refl d m (subst (FA d m) (let e = z.2 in let o : y ≡ never_exp = cc in o) w))
        pick (inr z) rec m d l w = chain_level (IsExit f v R t s F b) (λ c. outs v F (put (v.value b) c)) (length R) (f.chain b) exits (λ p m d l w. test R F b p a m d l w) y z.1 m d l w
          where
            exits : (e : Exit) (z : Exp) → InChain (f.chain b) e → IsExit f v R t s F b e (Some z) → LevelOf (length R) z
            exits e z c p m d l w = kind (exit_kind R t s F b e p.0 z a c p.1 p.2)
              where
                kind : ((Later rank t b) × (z ≡ leaf v f F b e s)) ⊎ (((z ≡ true_exp) ⊎ (z ≡ false_exp)) ⊎ ((G : List ℕ) × (m : ℕ) × (p.0 ≡ On G m) × (v.tree R t s G m ≡ Some z))) → d ≤ length R
                kind (inl o) = leaf_level R F b e s a (λ s m d l w. known b s m d o.0 l w) m d l (subst (FA d m) o.1 w)
                kind (inr (inl o)) = ⊎_elim (λ o. absurd (no_free (op.Int (pos 1)) refl d m (subst (FA d m) o w))) (λ o. absurd (no_free (op.Int (pos 0)) refl d m (subst (FA d m) o w))) o
                kind (inr (inr (G, k, o, g))) =
                    let s' = subst (λ (p : Place). Seen f R F e.dest p) o p.1 in
                    rec G k z (let r = on_rank f rank shape R F b e G k a c s' in omega arith) (seen_to f R F e.dest G k s').1 g m d l w

    -- values, by rank
    value_level : ((R F : List ℕ) (b : ℕ) (p : Part) → f.around b ≡ F ++ R → (m d : ℕ) → m < n → FA d m (outs v F (put (v.value b) p)) → d ≤ length R)
        → (M : ℕ) (b s : ℕ) → rank b < M → LevelOf (length (f.around b)) (v.value b s)
    value_level test zero b s less m d l w = absurd (omega arith)
    value_level test (suc M) b s less m d l w = go (heads_dec (f.around b) b) (dec b f.entry) (λ c s r. value_level test M c s r)
      where
        node : ((c s : ℕ) → rank c < M → LevelOf (length (f.around c)) (v.value c s)) → (P B : List ℕ) → f.around b ≡ P ++ B → (a : Exp) → Given (tree_of f v B (Node b) s) a → FA d m a → d ≤ length B
        node rec P B ab a g w = given_level _ a d m (length B) g
            (λ y q t. tree_level test top B (Node b) s (first_loops f B) (first_of_region f B) y (λ c s m d r l w. rec c s (omega arith) m d l w) (omega arith) (first_around b P B ab) q m d l t) w

        carried : (B : List ℕ) → f.around b ≡ b ∷ B → (b ≡ f.entry) ⊎ (b ≢ f.entry) → ((c s : ℕ) → rank c < M → LevelOf (length (f.around c)) (v.value c s)) → (c : Bool) → f.carried b s ≡ c → d ≤ length (f.around b)
        carried B ab en rec true e = name_level m (λ k r. (ih k (omega arith)).0) b s d (subst (FA d m) (eqs.names b s B ab e) w)
        carried B ab (inl en) rec false e = absurd (no_free (f.start s) (f.start_plain s) d m (subst (FA d m) (eqs.others b s B ab e ∙ ap (λ (b : ℕ). v.entering b s) en ∙ eqs.first_entries s (B, subst (λ (b : ℕ). f.around b ≡ b ∷ B) en ab)) w))
        carried B ab (inr en) rec false e =
            let r = node rec (b ∷ []) B ab (v.entering b s) (eqs.entries b s B ab en) (subst (FA d m) (eqs.others b s B ab e) w) in
            let o : length (f.around b) ≡ suc (length B) = ap length ab in omega arith

        go : Heads (f.around b) b ⊎ (Heads (f.around b) b → ⊥) → (b ≡ f.entry) ⊎ (b ≢ f.entry) → ((c s : ℕ) → rank c < M → LevelOf (length (f.around c)) (v.value c s)) → d ≤ length (f.around b)
        go (inl z) en rec = carried z.0 z.1 en rec (f.carried b s) refl
        go (inr z) (inl en) rec = absurd (no_free (f.start s) (f.start_plain s) d m (subst (FA d m) (ap (λ (b : ℕ). v.value b s) en ∙ eqs.starts s (subst (λ (b : ℕ). Heads (f.around b) b → ⊥) en z)) w))
        go (inr z) (inr en) rec = node rec [] (f.around b) refl (v.value b s) (eqs.blocks b s z en) w

    all_level : ((R F : List ℕ) (b : ℕ) (p : Part) → f.around b ≡ F ++ R → (m d : ℕ) → m < n → FA d m (outs v F (put (v.value b) p)) → d ≤ length R) → Level n
    all_level test = (
      (λ R t s F b y d a q w. tree_level test top R t s F b y (λ c s m d r l w. value_level test top c s (below_top c) m d l w) (omega arith) a q n d (le_refl n) w),
      (λ b s d w. value_level test top b s (below_top b) n d (le_refl n) w),
      seen_all n ih,
    )

    -- a test, in fewer steps
    test_level : (R F : List ℕ) (b : ℕ) (p : Part) → f.around b ≡ F ++ R → (k d : ℕ) → k ≤ n → ((m : ℕ) → m ≤ n → ValueLevel m) → FA d k (outs v F (put (v.value b) p)) → d ≤ length R
    test_level R F b p a k d l vl w = outs_level F R [] b (put (v.value b) p) a (part_level b p (F ++ R) a (λ s m d l z. vl m l b s d z)) k d l w

  levels : (N n : ℕ) → n < N → Level n
  levels zero n l = absurd (omega arith)
  levels (suc N) n l =
      all_level n (λ m r. levels N m (omega arith))
      (λ R F b p a m d r w. test_level m (λ k q. levels N k (omega arith)) R F b p a m d (le_refl m) (λ k q. (levels N k (omega arith)).1) w)

  -- THE RULE ON FREE DEPTHS: a depth by which `free` doesn't find a theta isn't free at all
  pub free_seen : (n : ℕ) (a : Exp) (d : ℕ) → FA d n a → FreeIn f v d a
  free_seen n a d h = (levels (suc n) n (omega arith)).2 a d h
