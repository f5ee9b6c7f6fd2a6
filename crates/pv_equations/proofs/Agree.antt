-- Two solutions of the equations of trees give the same trees for a target, where the values before it agree.
use Rattle.std.proofs.Common.{◌≡◌, ◌≢◌, ℕ, zero, suc, ◌+◌, ◌<◌, ◌≤◌, List, [], ◌∷◌, ◌++◌, length, Option, Some, None, ◌⊎◌, inl, inr, ⊎_elim, refl, sym, ap, ◌∙◌, subst, subst₂, append_assoc, length-append, arith}
use Rattle.pv_equations.proofs.Words.{Exp, Then, made, Heads, Part, Parts, Slot, Of, NoPart, More, put, put_all, Kind, Return, Throw, To, Exit, Chain, Leave, Test, InChain, Flow, Shape, Compact, Target, Node, Back, Finish, Returning, Leaving, Place, On, Again, Header, Gone, Ended, Seen, Joins, IsChain, Values, outs, leaf, AtPlace, IsExit, IsTree, never_exp, AreTrees}
use Rattle.pv_equations.proofs.Seen.{seen_once, seen_to}
use Rattle.pv_equations.proofs.Moves.{split_app, About, about, other_loop}
use Rattle.pv_equations.proofs.Walks.{IsNode, Walk, stop, go, on_rank, walk_rank, walk_around}
use Rattle.pv_equations.proofs.Same.{Done, Names, LoopsAgree, AllDone, put_names, outs_same, tokens_same}

abbrev pub Dull : Option Exp → Type 0
Dull r = (r ≡ None) ⊎ (r ≡ Some never_exp)

joins_same : (c : Exp) (a b r q : Option Exp) → Joins c a b r → Joins c a b q → r ≡ q
joins_same c None b r q h k = h ∙ sym k
joins_same c (Some a) None r q h k = h ∙ sym k
joins_same c (Some a) (Some b) r q (inl h) (inl k) = h.1 ∙ sym k.1
joins_same c (Some a) (Some b) r q (inr h) (inr k) = h.1 ∙ sym k.1
joins_same c (Some a) (Some b) r q (inl h) (inr k) = absurd (k.0 h.0)
joins_same c (Some a) (Some b) r q (inr h) (inl k) = absurd (h.0 k.0)

joins_dull : (c d : Exp) (a b r q : Option Exp) → Joins c a b r → Joins d a b q → Dull a → Dull b → (r ≡ q) × Dull r
joins_dull c d None b r q h k x y = (h ∙ sym k, subst Dull (sym h) y)
joins_dull c d (Some a) None r q h k x y = (h ∙ sym k, subst Dull (sym h) x)
joins_dull c d (Some a) (Some b) r q (inl h) (inl k) x y = (h.1 ∙ sym k.1, subst Dull (sym h.1) x)
joins_dull c d (Some a) (Some b) r q (inl h) (inr k) x y = absurd (k.0 h.0)
joins_dull c d (Some a) (Some b) r q (inr h) k x y = absurd (h.0 (both x y))
  where
    both : Dull (Some a) → Dull (Some b) → a ≡ b
    both (inl z) w = absurd (cc)
    both (inr z) (inl w) = absurd (cc)
    both (inr z) (inr w) = cc

module _ (f : Flow) (rank : ℕ → ℕ) (shape : Shape f rank) (compact : Compact f rank) (top : ℕ) (below_top : (b : ℕ) → rank b < top) (K : ℕ → List ℕ → Type 0) (n lim : ℕ) (lim_le : lim ≤ n) (done : (h : ℕ) (B : List ℕ) → Done f rank lim h B → K h B) (v u : Values) (tv : AreTrees f v) (tu : AreTrees f u) (agree : LoopsAgree f K v u)
    (values : (b s : ℕ) → rank b < n → (v.value b s ≡ u.value b s) × Names f K (f.around b) (v.value b s)) where
  abbrev pub NamesOf : List ℕ → Option Exp → Type 0
  NamesOf R None = Unit {0}
  NamesOf R (Some y) = Names f K R y

  -- the values at b and what is taken out of the loops F are known
  abbrev pub Ready : List ℕ → List ℕ → ℕ → Type 0
  Ready R F b = (rank b < n) × AllDone f K v u tv tu agree F R

  mutual
    put_same : (g k : ℕ → Exp) → ((s : ℕ) → g s ≡ k s) → (p : Part) → put g p ≡ put k p
    put_same g k h (Slot s) = h s
    put_same g k h (Of o p ps) = ap (made o) (put_all_same g k h ps)

    put_all_same : (g k : ℕ → Exp) → ((s : ℕ) → g s ≡ k s) → (ps : Parts) → put_all g ps ≡ put_all k ps
    put_all_same g k h NoPart = refl
    put_all_same g k h (More p ps) = ap (λ (e : Exp). Then e (put_all g ps)) (put_same g k h p) ∙ ap (Then (put k p)) (put_all_same g k h ps)

  part_known : (R F : List ℕ) (b : ℕ) (p : Part) → f.around b ≡ F ++ R → rank b < n → (put (v.value b) p ≡ put (u.value b) p) × Names f K (F ++ R) (put (v.value b) p)
  part_known R F b p a l = (put_same (v.value b) (u.value b) (λ s. (values b s l).0) p, subst (λ (A : List ℕ). Names f K A (put (v.value b) p)) a (put_names f K (f.around b) (v.value b) (λ s. (values b s l).1) p))

  test_known : (R F : List ℕ) (b : ℕ) (p : Part) → f.around b ≡ F ++ R → Ready R F b → (outs v F (put (v.value b) p) ≡ outs u F (put (u.value b) p)) × Names f K R (outs v F (put (v.value b) p))
  test_known R F b p a r = let k = part_known R F b p a r.0 in outs_same f K v u tv tu agree F R r.1 _ _ k.0 k.1

  leaf_known : (R F : List ℕ) (b : ℕ) (e : Exit) (s : ℕ) → f.around b ≡ F ++ R → Ready R F b → (leaf v f F b e s ≡ leaf u f F b e s) × Names f K R (leaf v f F b e s)
  leaf_known R F b e zero a r = let k = part_known R F b (e.slots 0) a r.0 in tokens_same f K v u tv tu agree F R r.1 _ _ k.0 k.1
  leaf_known R F b e (suc s) a r = let k = part_known R F b (e.slots (suc s)) a r.0 in outs_same f K v u tv tu agree F R r.1 _ _ k.0 k.1

  leaves_known : (R F : List ℕ) (b : ℕ) (e : Exit) (s : ℕ) → f.around b ≡ F ++ R → Ready R F b → (r q : Option Exp) → r ≡ Some (leaf v f F b e s) → q ≡ Some (leaf u f F b e s) → (r ≡ q) × NamesOf R r
  leaves_known R F b e s a w r q x y = let k = leaf_known R F b e s a w in (x ∙ ap Some k.0 ∙ sym y, subst (NamesOf R) (sym x) k.1)

  -- trees of a region for a target, where `Lead` says which places lead to it
  module _ (R : List ℕ) (t : Target) (s : ℕ) (Lead : List ℕ → ℕ → Type 0)
      (ready : (F : List ℕ) (b : ℕ) → f.around b ≡ F ++ R → Lead F b → Ready R F b)
      (step : (F : List ℕ) (b : ℕ) (e : Exit) (G : List ℕ) (m : ℕ) → f.around b ≡ F ++ R → InChain (f.chain b) e → Seen f R F e.dest (On G m) → Lead G m → Lead F b)
      (ends : (F : List ℕ) (b : ℕ) (e : Exit) (p : Place) (r q : Option Exp) → f.around b ≡ F ++ R → InChain (f.chain b) e → Seen f R F e.dest p → AtPlace f v R t s F b e p r → AtPlace f u R t s F b e p q
      → ((G : List ℕ) × (m : ℕ) × (p ≡ On G m) × (r ≡ v.tree R t s G m) × (q ≡ u.tree R t s G m)) ⊎ (((r ≡ q) × NamesOf R r × Dull r) ⊎ (Lead F b × (Ready R F b → (r ≡ q) × NamesOf R r)))) where
    abbrev pub SameAt : Option Exp → Option Exp → List ℕ → ℕ → Type 0
    SameAt r q F b = (r ≡ q) × NamesOf R r × (Dull r ⊎ Lead F b)

    exit_same : (F : List ℕ) (b : ℕ) (e : Exit) (r q : Option Exp) → f.around b ≡ F ++ R → InChain (f.chain b) e → IsExit f v R t s F b e r → IsExit f u R t s F b e q
        → ((G : List ℕ) (m : ℕ) → rank b < rank m → f.around m ≡ G ++ R → SameAt (v.tree R t s G m) (u.tree R t s G m) G m) → SameAt r q F b
    exit_same F b e r q a c x y ih = pick (ends F b e x.0 r q a c x.1 x.2 (subst (λ (p : Place). AtPlace f u R t s F b e p q) (seen_once f R F e.dest y.0 x.0 y.1 x.1) y.2))
      where
        pick : ((G : List ℕ) × (m : ℕ) × (x.0 ≡ On G m) × (r ≡ v.tree R t s G m) × (q ≡ u.tree R t s G m)) ⊎ (((r ≡ q) × NamesOf R r × Dull r) ⊎ (Lead F b × (Ready R F b → (r ≡ q) × NamesOf R r))) → SameAt r q F b
        pick (inl (G, m, z, k, l)) =
            let s' = subst (λ (p : Place). Seen f R F e.dest p) z x.1 in
            let o = ih G m (on_rank f rank shape R F b e G m a c s') (seen_to f R F e.dest G m s').1 in
            (k ∙ o.0 ∙ sym l, subst (NamesOf R) (sym k) o.1, ⊎_elim (λ d. inl (subst Dull (sym k) d)) (λ d. inr (step F b e G m a c s' d)) o.2)
        pick (inr (inl z)) = (z.0, z.1, inl z.2)
        pick (inr (inr z)) =
            let k = z.1 (ready F b a z.0) in (k.0, k.1, inr z.0)

    joins_names : (c : Exp) (a b r : Option Exp) → Joins c a b r → Names f K R c → NamesOf R a → NamesOf R b → NamesOf R r
    joins_names c None b r h x y z = subst (NamesOf R) (sym h) z
    joins_names c (Some a) None r h x y z = subst (NamesOf R) (sym h) y
    joins_names c (Some a) (Some b) r (inl h) x y z = subst (NamesOf R) (sym h.1) y
    joins_names c (Some a) (Some b) r (inr h) x y z = subst (NamesOf R) (sym h.1) (x, (y, (z, tt)))

    dull_names : (r : Option Exp) → Dull r → NamesOf R r
    dull_names r (inl z) = subst (NamesOf R) (sym z) tt
    dull_names r (inr z) = subst (NamesOf R) (sym z) tt

    chain_same : (F : List ℕ) (b : ℕ) → f.around b ≡ F ++ R → (ch : Chain) (r q : Option Exp) → IsChain (IsExit f v R t s F b) (λ c. outs v F (put (v.value b) c)) ch r → IsChain (IsExit f u R t s F b) (λ c. outs u F (put (u.value b) c)) ch q
        → ((e : Exit) (r q : Option Exp) → InChain ch e → IsExit f v R t s F b e r → IsExit f u R t s F b e q → SameAt r q F b) → SameAt r q F b
    chain_same F b a (Leave e) r q h k exits = exits e r q refl h k
    chain_same F b a (Test c e rest) r q h k exits =
        join (exits e h.0 k.0 (inl refl) h.2 k.2) (chain_same F b a rest h.1 k.1 h.3 k.3 (λ e r q i. exits e r q (inr i)))
      where
        known : Lead F b → SameAt h.0 k.0 F b → SameAt h.1 k.1 F b → SameAt r q F b
        known l x y =
            let z = test_known R F b c a (ready F b a l) in (
              joins_same (outs v F (put (v.value b) c)) h.0 h.1 r q h.4 (subst₂ (λ (a o : Option Exp). Joins (outs v F (put (v.value b) c)) a o q) (sym x.0) (sym y.0) (subst (λ (c : Exp). Joins c k.0 k.1 q) (sym z.0) k.4)),
              joins_names (outs v F (put (v.value b) c)) h.0 h.1 r h.4 z.1 x.1 y.1,
              inr l,
            )

        join : SameAt h.0 k.0 F b → SameAt h.1 k.1 F b → SameAt r q F b
        join (x, y, inr l) z = known l (x, y, inr l) z
        join (x, y, inl d) (x', y', inr l) = known l (x, y, inl d) (x', y', inr l)
        join (x, y, inl d) (x', y', inl d') =
            let o = joins_dull (outs v F (put (v.value b) c)) (outs u F (put (u.value b) c)) h.0 h.1 r q h.4 (subst₂ (λ (a b' : Option Exp). Joins (outs u F (put (u.value b) c)) a b' q) (sym x) (sym x') k.4) d d' in
            (o.0, dull_names r o.1, inl o.1)

    pub tree_same : (N : ℕ) (F : List ℕ) (b : ℕ) → top ≤ rank b + N → f.around b ≡ F ++ R → SameAt (v.tree R t s F b) (u.tree R t s F b) F b
    tree_same zero F b l a = absurd (let z = below_top b in omega arith)
    tree_same (suc N) F b l a = both (tv.trees R t s F b a) (tu.trees R t s F b a) (λ G m less am. tree_same N G m (omega arith) am)
      where
        both : IsTree f v R t s F b (v.tree R t s F b) → IsTree f u R t s F b (u.tree R t s F b) → ((G : List ℕ) (m : ℕ) → rank b < rank m → f.around m ≡ G ++ R → SameAt (v.tree R t s G m) (u.tree R t s G m) G m) → SameAt (v.tree R t s F b) (u.tree R t s F b) F b
        both (inl x) (inl y) ih = (x.2 ∙ sym y.2, dull_names (v.tree R t s F b) (inr x.2), inl (inr x.2))
        both (inl x) (inr y) ih = absurd (x.1 (y.0 x.0))
        both (inr x) (inl y) ih = absurd (y.1 (x.0 y.0))
        both (inr x) (inr y) ih = chain_same F b a (f.chain b) (v.tree R t s F b) (u.tree R t s F b) x.1 y.1 (λ e r q c i j. exit_same F b e r q a c i j ih)

  -- the target is a node of rank at most n: the places from which a walk leads to it
  module _ (R : List ℕ) (k : ℕ) (low : rank k ≤ lim) where
    abbrev Leads : List ℕ → ℕ → Type 0
    Leads F b = (H : List ℕ) × (l : ℕ) × (e : Exit) × (G : List ℕ) × Walk f R F b H l × InChain (f.chain l) e × Seen f R H e.dest (On G k) × IsNode G k

    -- a loop that a step leaves
    left_not_in : (b m : ℕ) (C E X Y : List ℕ) (c h : ℕ) (G : List ℕ) → f.around b ≡ C ++ (X ++ R) → rank b < rank m → C ≡ E ++ c ∷ Y → h ∷ G ≡ c ∷ (Y ++ X) → (f.around m ≡ X ++ R) ⊎ (f.around m ≡ m ∷ (X ++ R)) → (Z : List ℕ) → f.around m ≢ Z ++ h ∷ (G ++ R)
    left_not_in b m C E X Y c h G a less z q kind Z w = either kind
      where
        len : length (f.around m) ≡ length Z + suc (length G + length R)
        len = simp (length-append, length-append) at (ap length w)

        g : length G ≡ length Y + length X
        g = let o : G ≡ Y ++ X = cc in ap length o ∙ length-append Y X

        either : (f.around m ≡ X ++ R) ⊎ (f.around m ≡ m ∷ (X ++ R)) → ⊥
        either (inl y) = let o : length (f.around m) ≡ length X + length R = simp length-append at (ap length y) in absurd (omega (arith, len, g))
        either (inr y) = first Z (let o : length (f.around m) ≡ suc (length X + length R) = ap length y ∙ simp length-append in omega (arith, len, g)) w
          where
            first : (Z : List ℕ) → length Z ≡ 0 → f.around m ≡ Z ++ h ∷ (G ++ R) → ⊥
            first [] o w =
                let r : m ∷ (X ++ R) ≡ h ∷ (G ++ R) = sym y ∙ w in
                let s : m ≡ h = cc in
                let t : h ≡ c = cc in
                other_loop f rank shape b m C (X ++ R) a less E Y c z (sym t ∙ sym s)
            first (l ∷ Z) o w = absurd (let r : suc (length Z) ≡ 0 = o in omega arith)

    done_along : (F : List ℕ) (b : ℕ) (H : List ℕ) (l : ℕ) → Walk f R F b H l → f.around b ≡ F ++ R → (e : Exit) (G : List ℕ) → InChain (f.chain l) e → Seen f R H e.dest (On G k) → IsNode G k
        → (E : List ℕ) (h : ℕ) (L : List ℕ) → F ≡ E ++ h ∷ L → (c : ℕ) (X : List ℕ) → f.around c ≡ X ++ h ∷ (L ++ R) → rank c < rank k
    done_along F b H l (stop F' b') a e G ch seen node E h L z c X ac = side (split_app E (h ∷ L) i.3 i.4 (sym z ∙ i.5)) i.6
      where
        d : (e.dest ≡ To k) × (f.around k ≡ G ++ R)
        d = seen_to f R F' e.dest G k seen

        i : About f rank R F' b' k (On G k)
        i = about f rank shape R F' b' k e (On G k) a ch d.0 seen

        none : (Y : List ℕ) → [] ≡ Y ++ h ∷ L → ⊥
        none [] q = absurd (cc)
        none (y ∷ Y) q = absurd (cc)

        side : ((Y : List ℕ) × (E ≡ i.3 ++ Y) × (i.4 ≡ Y ++ h ∷ L)) ⊎ ((o : ℕ) × (Y : List ℕ) × (i.3 ≡ E ++ o ∷ Y) × (h ∷ L ≡ o ∷ (Y ++ i.4))) → ((G ≡ i.4) × (f.around k ≡ i.4 ++ R) × (Heads (f.around k) k → ⊥)) ⊎ ((G ≡ k ∷ i.4) × (f.around k ≡ k ∷ (i.4 ++ R))) → rank c < rank k
        side (inl y) (inl q) = ⊎_elim (λ g. absurd (none y.0 (sym g ∙ q.0 ∙ y.2))) (λ g. absurd (q.2 (R, q.1 ∙ ap (λ (J : List ℕ). J ++ R) (sym q.0 ∙ g)))) node
        side (inl y) (inr q) = ⊎_elim (λ g. absurd (let w : [] ≡ k ∷ i.4 = sym g ∙ q.0 in cc)) (λ g. absurd (none y.0 (let w : k ∷ [] ≡ k ∷ i.4 = sym g ∙ q.0 in let r : [] ≡ i.4 = cc in r ∙ y.2))) node
        side (inr y) q =
            compact h (L ++ R) E X b' c k e (a ∙ ap (λ (J : List ℕ). J ++ R) z ∙ append_assoc E (h ∷ L) R) ac ch d.0 i.1
            (left_not_in b' k i.3 E i.4 y.1 y.0 h L (a ∙ ap (λ (J : List ℕ). J ++ R) i.5 ∙ append_assoc i.3 i.4 R) i.1 y.2 y.3 (⊎_elim (λ w. inl w.1) (λ w. inr w.1) q))
    done_along F b H l (go F' b' e' G' m H' l' ch' seen' rest) a e G ch seen node E h L z c X ac = side (split_app E (h ∷ L) i.3 i.4 (sym z ∙ i.5)) i.6 (λ E' z'. done_along G' m H' l' rest d.1 e G ch seen node E' h L z' c X ac)
      where
        d : (e'.dest ≡ To m) × (f.around m ≡ G' ++ R)
        d = seen_to f R F' e'.dest G' m seen'

        i : About f rank R F' b' m (On G' m)
        i = about f rank shape R F' b' m e' (On G' m) a ch' d.0 seen'

        late : rank m < rank k
        late = let p = walk_rank f rank shape R G' m H' l' rest d.1 in let q = on_rank f rank shape R H' l' e G k (walk_around f rank shape R G' m H' l' rest d.1) ch seen in omega arith

        side : ((Y : List ℕ) × (E ≡ i.3 ++ Y) × (i.4 ≡ Y ++ h ∷ L)) ⊎ ((o : ℕ) × (Y : List ℕ) × (i.3 ≡ E ++ o ∷ Y) × (h ∷ L ≡ o ∷ (Y ++ i.4))) → ((G' ≡ i.4) × (f.around m ≡ i.4 ++ R) × (Heads (f.around m) m → ⊥)) ⊎ ((G' ≡ m ∷ i.4) × (f.around m ≡ m ∷ (i.4 ++ R)))
            → ((E' : List ℕ) → G' ≡ E' ++ h ∷ L → rank c < rank k) → rank c < rank k
        side (inl y) (inl q) ih = ih y.0 (q.0 ∙ y.2)
        side (inl y) (inr q) ih = ih (m ∷ y.0) (q.0 ∙ ap (λ (J : List ℕ). m ∷ J) y.2)
        side (inr y) q ih =
            let o = compact h (L ++ R) E X b' c m e' (a ∙ ap (λ (J : List ℕ). J ++ R) z ∙ append_assoc E (h ∷ L) R) ac ch' d.0 i.1
            (left_not_in b' m i.3 E i.4 y.1 y.0 h L (a ∙ ap (λ (J : List ℕ). J ++ R) i.5 ∙ append_assoc i.3 i.4 R) i.1 y.2 y.3 (⊎_elim (λ w. inl w.1) (λ w. inr w.1) q)) in
            omega (arith, late)

    leads_ready : (F : List ℕ) (b : ℕ) → f.around b ≡ F ++ R → Leads F b → Ready R F b
    leads_ready F b a (H, l, e, G, walk, ch, seen, node) = (
      (let p = walk_rank f rank shape R F b H l walk a in let q = on_rank f rank shape R H l e G k (walk_around f rank shape R F b H l walk a) ch seen in omega arith),
      (λ E h L z. ((shape.headers b h E (L ++ R) (a ∙ ap (λ (J : List ℕ). J ++ R) z ∙ append_assoc E (h ∷ L) R)).0, done h (L ++ R) (λ c X ac. let o = done_along F b H l walk a e G ch seen node E h L z c X ac in omega arith))),
    )

    node_hit : (a : Values) (s : ℕ) (F : List ℕ) (b : ℕ) (e : Exit) (G : List ℕ) (m : ℕ) (r : Option Exp) → IsNode G m → m ≡ k → AtPlace f a R (Node k) s F b e (On G m) r → r ≡ Some (leaf a f F b e s)
    node_hit a s F b e G m r g z (inl h) = h.2
    node_hit a s F b e G m r (inl g) z (inr h) = absurd (⊎_elim (λ y. y z) (λ y. y.0 g) h.0)
    node_hit a s F b e G m r (inr g) z (inr h) = absurd (⊎_elim (λ y. y z) (λ y. y.1 g) h.0)

    node_miss : (a : Values) (s : ℕ) (F : List ℕ) (b : ℕ) (e : Exit) (G : List ℕ) (m : ℕ) (r : Option Exp) → ((m ≢ k) ⊎ ((G ≢ []) × (G ≢ m ∷ []))) → AtPlace f a R (Node k) s F b e (On G m) r → r ≡ a.tree R (Node k) s G m
    node_miss a s F b e G m r g (inr h) = h.1
    node_miss a s F b e G m r (inl g) (inl h) = absurd (g h.1)
    node_miss a s F b e G m r (inr g) (inl h) = absurd (⊎_elim (λ y. g.0 y) (λ y. g.1 y) h.0)

    node_ends : (s : ℕ) (F : List ℕ) (b : ℕ) (e : Exit) (p : Place) (r q : Option Exp) → f.around b ≡ F ++ R → InChain (f.chain b) e → Seen f R F e.dest p → AtPlace f v R (Node k) s F b e p r → AtPlace f u R (Node k) s F b e p q
        → ((G : List ℕ) × (m : ℕ) × (p ≡ On G m) × (r ≡ v.tree R (Node k) s G m) × (q ≡ u.tree R (Node k) s G m)) ⊎ (((r ≡ q) × NamesOf R r × Dull r) ⊎ (Leads F b × (Ready R F b → (r ≡ q) × NamesOf R r)))
    node_ends s F b e (On G m) r q a c seen (inl h) y =
        inr (inr ((F, b, e, G, stop F b, c, subst (λ (m : ℕ). Seen f R F e.dest (On G m)) h.1 seen, subst (IsNode G) h.1 h.0), λ w. leaves_known R F b e s a w r q h.2 (node_hit u s F b e G m q h.0 h.1 y)))
    node_ends s F b e (On G m) r q a c seen (inr h) y = inl (G, m, refl, h.1, node_miss u s F b e G m q h.0 y)
    node_ends s F b e Again r q a c seen x y = inr (inl (x ∙ sym y, subst (NamesOf R) (sym x) tt, inl x))
    node_ends s F b e Header r q a c seen x y = inr (inl (x ∙ sym y, subst (NamesOf R) (sym x) tt, inl x))
    node_ends s F b e Gone r q a c seen x y = inr (inl (x ∙ sym y, subst (NamesOf R) (sym x) tt, inl x))
    node_ends s F b e (Ended o) r q a c seen x y = inr (inl (x ∙ sym y, subst (NamesOf R) (sym x) tt, inl x))

    pub node_same : (s : ℕ) (F : List ℕ) (b : ℕ) → f.around b ≡ F ++ R → (v.tree R (Node k) s F b ≡ u.tree R (Node k) s F b) × NamesOf R (v.tree R (Node k) s F b)
    node_same s F b a =
        let o = tree_same R (Node k) s Leads leads_ready (λ F b e G m a c seen l. (l.0, l.1, l.2, l.3, go F b e G m l.0 l.1 c seen l.4, l.5, l.6, l.7)) (node_ends s) top F b (omega arith) a in
        (o.0, o.1)

  -- a region all of whose blocks are known, for any target but a node
  module _ (R : List ℕ) (known : (F : List ℕ) (b : ℕ) → f.around b ≡ F ++ R → Ready R F b) where
    abbrev Unlabelled : Target → Type 0
    Unlabelled (Node k) = ⊥
    Unlabelled t = Unit {0}

    any_ends : (t : Target) → Unlabelled t → (s : ℕ) (F : List ℕ) (b : ℕ) (e : Exit) (p : Place) (r q : Option Exp) → f.around b ≡ F ++ R → InChain (f.chain b) e → Seen f R F e.dest p → AtPlace f v R t s F b e p r → AtPlace f u R t s F b e p q
        → ((G : List ℕ) × (m : ℕ) × (p ≡ On G m) × (r ≡ v.tree R t s G m) × (q ≡ u.tree R t s G m)) ⊎ (((r ≡ q) × NamesOf R r × Dull r) ⊎ (Unit {0} × (Ready R F b → (r ≡ q) × NamesOf R r)))
    any_ends (Node k) w s F b e p r q a c seen x y = absurd w
    any_ends Back w s F b e (On G m) r q a c seen x y = inl (G, m, refl, x, y)
    any_ends Finish w s F b e (On G m) r q a c seen x y = inl (G, m, refl, x, y)
    any_ends Returning w s F b e (On G m) r q a c seen x y = inl (G, m, refl, x, y)
    any_ends Leaving w s F b e (On G m) r q a c seen x y = inl (G, m, refl, x, y)
    any_ends Back w s F b e Header r q a c seen x y = inr (inr (tt, λ w. leaves_known R F b e s a w r q x y))
    any_ends Leaving w s F b e Header r q a c seen x y = inr (inr (tt, λ w. (x ∙ sym y, subst (NamesOf R) (sym x) tt)))
    any_ends Leaving w s F b e Gone r q a c seen x y = inr (inr (tt, λ w. (x ∙ sym y, subst (NamesOf R) (sym x) tt)))
    any_ends Leaving w s F b e (Ended k) r q a c seen x y = inr (inr (tt, λ w. (x ∙ sym y, subst (NamesOf R) (sym x) tt)))
    any_ends Finish w s F b e (Ended k) r q a c seen x y = ended R k r q refl x y
      where
        ended : (S : List ℕ) (k : Kind) (r q : Option Exp) → R ≡ S → AtPlace f v S Finish s F b e (Ended k) r → AtPlace f u S Finish s F b e (Ended k) q → ((G : List ℕ) × (m : ℕ) × (Ended k ≡ On G m) × (r ≡ v.tree R Finish s G m) × (q ≡ u.tree R Finish s G m)) ⊎ (((r ≡ q) × NamesOf R r × Dull r) ⊎ (Unit {0} × (Ready R F b → (r ≡ q) × NamesOf R r)))
        ended [] k r q z x y = inr (inr (tt, λ w. leaves_known R F b e s a w r q x y))
        ended (h ∷ S) k r q z x y = inr (inl (x ∙ sym y, subst (NamesOf R) (sym x) tt, inl x))
    any_ends Returning w s F b e (Ended k) r q a c seen x y = ended R k r q refl x y
      where
        ended : (S : List ℕ) (k : Kind) (r q : Option Exp) → R ≡ S → AtPlace f v S Returning s F b e (Ended k) r → AtPlace f u S Returning s F b e (Ended k) q → ((G : List ℕ) × (m : ℕ) × (Ended k ≡ On G m) × (r ≡ v.tree R Returning s G m) × (q ≡ u.tree R Returning s G m)) ⊎ (((r ≡ q) × NamesOf R r × Dull r) ⊎ (Unit {0} × (Ready R F b → (r ≡ q) × NamesOf R r)))
        ended [] Return r q z x y = inr (inr (tt, λ w. leaves_known R F b e s a w r q x y))
        ended [] Throw r q z x y = inr (inl (x ∙ sym y, subst (NamesOf R) (sym x) tt, inl x))
        ended (h ∷ S) k r q z x y = inr (inl (x ∙ sym y, subst (NamesOf R) (sym x) tt, inl x))
    any_ends Back w s F b e (Ended k) r q a c seen x y = inr (inl (x ∙ sym y, subst (NamesOf R) (sym x) tt, inl x))
    any_ends Back w s F b e p r q a c seen x y = inr (inl (x ∙ sym y, subst (NamesOf R) (sym x) tt, inl x))
    any_ends Finish w s F b e p r q a c seen x y = inr (inl (x ∙ sym y, subst (NamesOf R) (sym x) tt, inl x))
    any_ends Returning w s F b e p r q a c seen x y = inr (inl (x ∙ sym y, subst (NamesOf R) (sym x) tt, inl x))
    any_ends Leaving w s F b e p r q a c seen x y = inr (inl (x ∙ sym y, subst (NamesOf R) (sym x) tt, inl x))

    pub region_same : (t : Target) → Unlabelled t → (s : ℕ) (F : List ℕ) (b : ℕ) → f.around b ≡ F ++ R → (v.tree R t s F b ≡ u.tree R t s F b) × NamesOf R (v.tree R t s F b)
    region_same t w s F b a =
        let o = tree_same R t s (λ F b. Unit {0}) (λ F b a l. known F b a) (λ F b e G m a c seen l. tt) (any_ends t w s) top F b (omega arith) a in
        (o.0, o.1)
