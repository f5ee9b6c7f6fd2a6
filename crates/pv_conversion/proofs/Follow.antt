-- A run follows the trees.
use Rattle.std.proofs.Common.{◌≡◌, ◌≢◌, ℕ, zero, suc, ◌+◌, ◌<◌, ◌≤◌, pos, if◌then◌else◌, Bool, true, false, List, [], ◌∷◌, ◌++◌, length, Option, Some, None, ◌⊎◌, ◌↔◌, inl, inr, ⊎_elim, refl, sym, ap, ◌∙◌, subst, subst₂, append-nil, append_assoc, length-append, arith, le_refl}
use Rattle.pv_conversion.proofs.Words.{AllZip, World, Input, Val, Index, at_depth, truth, Means, at_same, at_other, Exp, Exps, Over, NoExp, Then, one, two, three, listed, Heads, Part, Parts, Slot, Of, NoPart, More, put, put_all, Kind, Return, Dest, To, End, Exit, Chain, Leave, Test, InChain, Flow, TokenPart, kept, calls, Edge, Shape, PartIs, PartsAre, Chooses, Steps, Runs, ends, goes, Starts, Target, Node, Back, Finish, Returning, Leaving, Place, On, Again, Header, Gone, Ended, Seen, Joins, IsChain, Values, outs, token_out, token_outs, leaf, AtPlace, IsExit, Hits, Ahead, now, later, OfToken, IsTree, first_of_region, first_loops, tree_of, or_else, Given, FreeIn, unit_exp, never_exp, true_exp, false_exp, at_start, AreEquations, first_kid, Later, lands_gone, lands_header, lands_in, lands_on, seen_ended, seen_heads, seen_once, seen_to, Meaning}
use Rattle.pv_value.specs.declared.outcome.Val.TheVariants as vals
use Rattle.pv_value.specs.declared.number.Num.TheVariants as num
use Rattle.pv_graph.specs.declared.node.Op.{Op}
use Rattle.pv_graph.specs.declared.node.Op.TheVariants as op
use Rattle.pv_graph.specs.Ops as ops
use Rattle.pv_denote.specs.Denote.{strict}
use Rattle.pv_equations.specs.Exp.{made}

-- one iteration up to a depth
abbrev pub AgreesTo : ℕ → Index → Index → Type 0
AgreesTo n i j = (d : ℕ) → d ≤ n → i d ≡ j d

pub Later_back : (rank : ℕ → ℕ) (t : Target) (b m : ℕ) → rank b ≤ rank m → Later rank t m → Later rank t b
Later_back rank (Node n) b m e h = omega arith
Later_back rank Back b m e h = tt
Later_back rank Finish b m e h = tt
Later_back rank Returning b m e h = tt
Later_back rank Leaving b m e h = tt

pub given_is : (r : Option Exp) (a y : Exp) → Given r a → r ≡ Some y → a ≡ y
given_is r a y g e = g ∙ ap (λ (r : Option Exp). or_else r never_exp) e

pub some_inj : (a b : Exp) → Some a ≡ Some b → a ≡ b
some_inj a b h = cc

unit_start : (w : World) (x : Input) (u : Val) → strict w x op.Unit [] ≡ Some u → u ≡ vals.Unit
unfolding strict
unit_start w x u e = cc

pub chooses_in : (w : World) (x : Input) (σ : ℕ → Val) (ch : Chain) (e : Exit) → Chooses w x σ ch e → InChain ch e
chooses_in w x σ (Leave d) e h = h
chooses_in w x σ (Test c y rest) e h = ⊎_elim (λ z. inl z.1) (λ z. inr (chooses_in w x σ rest e z.1)) h.2

pub both_says : (w : World) (x : Input) (p q u : Val) → strict w x op.Both (p ∷ q ∷ []) ≡ Some u → (p ≡ vals.Unit) × (q ≡ vals.Unit) × (u ≡ vals.Unit)
unfolding strict
both_says w x vals.Unit vals.Unit u h = (refl, refl, cc)
both_says w x _ _ u h = absurd (cc)

module _ (w : World) (x : Input) (V : Exp → Index → Val → Type 0) (f : Flow) (v : Values) (rank : ℕ → ℕ) (mean : Meaning w x V f v) (eqs : AreEquations f v) (shape : Shape f rank) where
  made_both : (t : Exp) (i : Index) (u : Val) (vs : List Val) → AllZip (λ k u. V k i u) (unit_exp ∷ t ∷ []) vs → strict w x op.Both vs ≡ Some u → V t i u
  made_both t i u (p ∷ q ∷ []) h e = let o = both_says w x p q u e in subst (V t i) (o.1 ∙ sym o.2) h.1.0
  made_both t i u _ h e = absurd (assumption)

  pub made_makes : (o : Op) → ops.shape o ≡ ops.plain → (es : Exps) (i : Index) (u : Val) → Means w x V ops.plain o (listed es) i u → V (made o es) i u
  unfolding made
  made_makes op.Both p (Then (Over op.Unit NoExp) (Then t NoExp)) i u m = made_both t i u m.0 m.1 m.2
  made_makes o p es i u m = mean.makes o es i u (subst (λ (s : ops.Shape). Means w x V s o (listed es) i u) (sym p) m)

  mutual
    pub put_value : (g : ℕ → Exp) (σ : ℕ → Val) (i : Index) → ((s : ℕ) → V (g s) i (σ s)) → (p : Part) (u : Val) → PartIs w x σ p u → V (put g p) i u
    put_value g σ i h (Slot s) u e = subst (V (g s) i) e (h s)
    put_value g σ i h (Of o p ps) u e = made_makes o p (put_all g ps) i u (e.0, put_all_values g σ i h ps e.0 e.1, e.2)

    pub put_all_values : (g : ℕ → Exp) (σ : ℕ → Val) (i : Index) → ((s : ℕ) → V (g s) i (σ s)) → (ps : Parts) (us : List Val) → PartsAre w x σ ps us → AllZip (λ k u. V k i u) (listed (put_all g ps)) us
    put_all_values g σ i h NoPart us e = rw e tt
    put_all_values g σ i h (More p ps) us e = rw (e.4) (put_value g σ i h p e.0 e.2, put_all_values g σ i h ps e.1 e.3)

  -- where there is a second, there is a first, and it has the same values
  abbrev pub Ends : Index → Option Exp → Option Exp → Type 0
  Ends j a b = (y : Exp) → b ≡ Some y → (z : Exp) × (a ≡ Some z) × ((u : Val) → V z j u ↔ V y j u)

  pub Ends_chain : (j : Index) (a b c : Option Exp) → Ends j a b → Ends j b c → Ends j a c
  Ends_chain j a b c p q y e =
      let r = q y e in
      let s = p r.0 r.1 in
      (s.0, s.1, λ u. ((λ h. (r.2 u).0 ((s.2 u).0 h)), (λ h. (s.2 u).1 ((r.2 u).1 h))))

  phi_yes : (c a b : Exp) (j : Index) (t u : Val) → V c j t → truth t ≡ Some true → V (Over op.Phi (three c a b)) j u ↔ V a j u
  phi_yes c a b j t u h e = (
    (λ z. let m = mean.says op.Phi (three c a b) j u z in
        let same : m.0 ≡ true = (let o = mean.once c j m.1.0 t m.1.1 h in let q = m.1.2 in cc) in
        subst (λ (k : Bool). V (if k then a else b) j u) same m.2),
    (λ z. mean.makes op.Phi (three c a b) j u (true, (t, h, e), z)),
  )

  phi_no : (c a b : Exp) (j : Index) (t u : Val) → V c j t → truth t ≡ Some false → V (Over op.Phi (three c a b)) j u ↔ V b j u
  phi_no c a b j t u h e = (
    (λ z. let m = mean.says op.Phi (three c a b) j u z in
        let same : m.0 ≡ false = (let o = mean.once c j m.1.0 t m.1.1 h in let q = m.1.2 in cc) in
        subst (λ (k : Bool). V (if k then a else b) j u) same m.2),
    (λ z. mean.makes op.Phi (three c a b) j u (false, (t, h, e), z)),
  )

  id_same : (a : Exp) (j : Index) (u : Val) → V a j u ↔ V a j u
  id_same a j u = ((λ h. h), (λ h. h))

  pub Ends_refl : (j : Index) (a : Option Exp) → Ends j a a
  Ends_refl j a y z = (y, z, id_same y j)

  Joins_yes : (c : Exp) (j : Index) (t : Val) (a b r : Option Exp) → V c j t → truth t ≡ Some true → Joins c a b r → Ends j r a
  Joins_yes c j t None b r h e k y z = absurd (cc)
  Joins_yes c j t (Some a) None r h e k y z = (a, k, subst (λ (y : Exp). (u : Val) → V a j u ↔ V y j u) (let o : a ≡ y = cc in o) (id_same a j))
  Joins_yes c j t (Some a) (Some b) r h e (inl k) y z = (a, k.1, subst (λ (y : Exp). (u : Val) → V a j u ↔ V y j u) (let o : a ≡ y = cc in o) (id_same a j))
  Joins_yes c j t (Some a) (Some b) r h e (inr k) y z = (Over op.Phi (three c a b), k.1, subst (λ (y : Exp). (u : Val) → V (Over op.Phi (three c a b)) j u ↔ V y j u) (let o : a ≡ y = cc in o) (λ u. phi_yes c a b j t u h e))

  Joins_no : (c : Exp) (j : Index) (t : Val) (a b r : Option Exp) → V c j t → truth t ≡ Some false → Joins c a b r → Ends j r b
  Joins_no c j t None b r h e k y z = (y, k ∙ z, id_same y j)
  Joins_no c j t (Some a) None r h e k y z = absurd (cc)
  Joins_no c j t (Some a) (Some b) r h e (inl k) y z = (a, k.1, subst (λ (y : Exp). (u : Val) → V a j u ↔ V y j u) (let q = k.0 in let o : a ≡ y = cc in o) (id_same a j))
  Joins_no c j t (Some a) (Some b) r h e (inr k) y z = (Over op.Phi (three c a b), k.1, subst (λ (y : Exp). (u : Val) → V (Over op.Phi (three c a b)) j u ↔ V y j u) (let o : b ≡ y = cc in o) (λ u. phi_no c a b j t u h e))

  -- a chain whose tests choose an exit has the values of what the exit gives
  chosen : (X : Exit → Option Exp → Type 0) (c : Part → Exp) (σ : ℕ → Val) (j : Index) → ((p : Part) (u : Val) → PartIs w x σ p u → V (c p) j u)
      → (ch : Chain) (e : Exit) (r : Option Exp) → IsChain X c ch r → Chooses w x σ ch e → (u : Option Exp) × X e u × Ends j r u
  chosen X c σ j faith (Leave d) e r k h = (r, subst (λ (d : Exit). X d r) h k, Ends_refl j r)
  chosen X c σ j faith (Test t d rest) e r k h = go (chosen X c σ j faith rest e k.1 k.3) h.2
    where
      go : (Chooses w x σ rest e → (u : Option Exp) × X e u × Ends j k.1 u) → ((truth h.0 ≡ Some true) × (d ≡ e)) ⊎ ((truth h.0 ≡ Some false) × Chooses w x σ rest e) → (u : Option Exp) × X e u × Ends j r u
      go ih (inl z) = (k.0, subst (λ (d : Exit). X d k.0) z.1 k.2, Joins_yes (c t) j h.0 k.0 k.1 r (faith t h.0 h.1) z.0 k.4)
      go ih (inr z) = let o = ih z.1 in (o.0, o.1, Ends_chain j r k.1 o.0 (Joins_no (c t) j h.0 k.0 k.1 r (faith t h.0 h.1) z.0 k.4) o.2)

  pub at_on : (R : List ℕ) (t : Target) (s : ℕ) (F : List ℕ) (b : ℕ) (e : Exit) (G : List ℕ) (m : ℕ) (r : Option Exp) → Later rank t m → AtPlace f v R t s F b e (On G m) r → r ≡ v.tree R t s G m
  at_on R (Node n) s F b e G m r l (inl h) = absurd (let z = h.1 in let y : rank m ≡ rank n = ap rank z in omega arith)
  at_on R (Node n) s F b e G m r l (inr h) = h.1
  at_on R Back s F b e G m r l h = h
  at_on R Finish s F b e G m r l h = h
  at_on R Returning s F b e G m r l h = h
  at_on R Leaving s F b e G m r l h = h

  -- the tree from a block from which nothing is reached
  pub dead_tree : (R : List ℕ) (t : Target) (s : ℕ) (F : List ℕ) (b : ℕ) → f.around b ≡ F ++ R → OfToken t s → (Ahead f R t b → ⊥) → v.tree R t s F b ≡ Some never_exp
  dead_tree R t s F b a k n = ⊎_elim (λ z. z.2) (λ z. absurd (n (z.0 k))) (eqs.trees R t s F b a)

  -- .. and what its exits give
  dead : (R : List ℕ) (t : Target) (s : ℕ) (F : List ℕ) (b : ℕ) (e : Exit) (p : Place) (j : Index) → OfToken t s → (Ahead f R t b → ⊥) → InChain (f.chain b) e → Seen f R F e.dest p
      → (r : Option Exp) × AtPlace f v R t s F b e p r × Ends j (Some never_exp) r
  dead R (Node n) s F b e (On G m) j k nay c q =
      let o = seen_to f R F e.dest G m q in (
        v.tree R (Node n) s G m,
        inr (inl (λ z. nay (now b e c (subst (Hits R (Node n)) (sym o.0) z))), refl),
        subst (Ends j (Some never_exp)) (sym (dead_tree R (Node n) s G m o.1 k (λ z. nay (later b m e c o.0 z)))) (Ends_refl j _),
      )
  dead R Back s F b e (On G m) j k nay c q =
      let o = seen_to f R F e.dest G m q in
      (v.tree R Back s G m, refl, subst (Ends j (Some never_exp)) (sym (dead_tree R Back s G m o.1 k (λ z. nay (later b m e c o.0 z)))) (Ends_refl j _))
  dead R Finish s F b e (On G m) j k nay c q =
      let o = seen_to f R F e.dest G m q in
      (v.tree R Finish s G m, refl, subst (Ends j (Some never_exp)) (sym (dead_tree R Finish s G m o.1 k (λ z. nay (later b m e c o.0 z)))) (Ends_refl j _))
  dead R Returning s F b e (On G m) j k nay c q =
      let o = seen_to f R F e.dest G m q in
      (v.tree R Returning s G m, refl, subst (Ends j (Some never_exp)) (sym (dead_tree R Returning s G m o.1 k (λ z. nay (later b m e c o.0 z)))) (Ends_refl j _))
  dead R Leaving s F b e p j k nay c q = absurd k
  dead R (Node n) s F b e Again j k nay c q = (None, refl, λ y z. absurd (cc))
  dead R Back s F b e Again j k nay c q = (None, refl, λ y z. absurd (cc))
  dead R Finish s F b e Again j k nay c q = (None, refl, λ y z. absurd (cc))
  dead R Returning s F b e Again j k nay c q = (None, refl, λ y z. absurd (cc))
  dead R Back s F b e Header j k nay c q = let o = seen_heads f R F e.dest q in absurd (nay (now b e c (subst (Hits R Back) (sym o.1) o.2)))
  dead R (Node n) s F b e Header j k nay c q = (None, refl, λ y z. absurd (cc))
  dead R Finish s F b e Header j k nay c q = (None, refl, λ y z. absurd (cc))
  dead R Returning s F b e Header j k nay c q = (None, refl, λ y z. absurd (cc))
  dead R (Node n) s F b e Gone j k nay c q = (None, refl, λ y z. absurd (cc))
  dead R Back s F b e Gone j k nay c q = (None, refl, λ y z. absurd (cc))
  dead R Finish s F b e Gone j k nay c q = (None, refl, λ y z. absurd (cc))
  dead R Returning s F b e Gone j k nay c q = (None, refl, λ y z. absurd (cc))
  dead R t s F b e (Ended m) j k nay c q = absurd (nay (now b e c (subst (Hits R t) (sym (seen_ended f R F e.dest m q)) tt)))

  -- taken out of the loops F, what has a value in this iteration of A has it at j
  abbrev pub Faith : List ℕ → List ℕ → Index → Index → Type 0
  Faith F A i j = (a : Exp) (u : Val) → ((k : Index) → AgreesTo (length A) i k → V a k u) → V (outs v F a) j u

  -- in this iteration of A the run has come from the first node to m, inside the loops G, as the tests say
  abbrev pub Follows : Index → List ℕ → List ℕ → ℕ → Type 0
  Follows i A G m = (R F : List ℕ) → F ++ R ≡ A → (j : Index) → Faith F A i j → (t : Target) (s : ℕ) → Later rank t m
      → Ends j (v.tree R t s (first_loops f A ++ F) (first_of_region f A)) (v.tree R t s (G ++ F) m)

  -- the slots at b have these values in this iteration
  abbrev pub HasSlots : Index → ℕ → (ℕ → Val) → Type 0
  HasSlots i b σ = (s : ℕ) (k : Index) → AgreesTo (length (f.around b)) i k → V (v.value b s) k (σ s)

  -- a step, seen from the region inside R: the rest of the tree goes on at the exit
  pub goes_on : (i : Index) (b : ℕ) (σ : ℕ → Val) (e : Exit) → HasSlots i b σ → Chooses w x σ (f.chain b) e → (R F : List ℕ) → f.around b ≡ F ++ R → (j : Index) → Faith F (f.around b) i j → (t : Target) (s : ℕ)
      → (p : Place) → Seen f R F e.dest p → (r : Option Exp) × AtPlace f v R t s F b e p r × Ends j (v.tree R t s F b) r
  goes_on i b σ e val c R F a j faith t s p q = go (eqs.trees R t s F b a)
    where
      go : IsTree f v R t s F b (v.tree R t s F b) → (r : Option Exp) × AtPlace f v R t s F b e p r × Ends j (v.tree R t s F b) r
      go (inl z) = subst (λ (o : Option Exp). (r : Option Exp) × AtPlace f v R t s F b e p r × Ends j o r) (sym z.2) (dead R t s F b e p j z.0 z.1 (chooses_in w x σ (f.chain b) e c) q)
      go (inr z) =
          let o = chosen (IsExit f v R t s F b) (λ p. outs v F (put (v.value b) p)) σ j
          (λ p u h. faith (put (v.value b) p) u (λ k g. put_value (v.value b) σ k (λ s. val s k g) p u h)) (f.chain b) e (v.tree R t s F b) z.1 c in
          (o.0, subst (λ (p : Place). AtPlace f v R t s F b e p o.0) (seen_once f R F e.dest o.1.0 p o.1.1 q) o.1.2, o.2)

  -- a run that has come to m inside the loops C of the region inside D: seen from D, and what is taken out of C
  abbrev pub Lifts : Index → List ℕ → List ℕ → Type 0
  Lifts i C D = (F : List ℕ) (j : Index) → Faith F D i j → Faith (C ++ F) (C ++ D) i j

  abbrev pub TokenLifts : Index → List ℕ → List ℕ → Type 0
  TokenLifts i C D = (j : Index) → AgreesTo (length D) i j → (a : Exp) → ((k : Index) → AgreesTo (length (C ++ D)) i k → V a k vals.Unit) → V (token_outs v f C a) j vals.Unit

  abbrev pub Left : Index → ℕ → List ℕ → List ℕ → Type 0
  Left i b C D = (f.around b ≡ C ++ D) × Follows i D C b × Lifts i C D × TokenLifts i C D

  -- in each earlier iteration the loop isn't left
  abbrev pub StayedIn : Index → ℕ → List ℕ → Type 0
  StayedIn i h B = (l : ℕ) → l < i (length (h ∷ B)) → (k : Index) → AgreesTo (length B) i k → V (v.ending h) (at_depth k (length (h ∷ B)) l) (vals.Num (num.Int (pos 0)))

  -- .. and in this one it is
  abbrev pub LeftNow : Index → ℕ → List ℕ → Type 0
  LeftNow i h B = (k : Index) → AgreesTo (length (h ∷ B)) i k → V (v.ending h) k (vals.Num (num.Int (pos 1)))

  pub faith_here : (A : List ℕ) (i j : Index) → AgreesTo (length A) i j → Faith [] A i j
  faith_here A i j g a u h = h j g

  pub agrees_in : (n : ℕ) (i j : Index) → AgreesTo n i j → AgreesTo (suc n) i (at_depth j (suc n) (i (suc n)))
  agrees_in n i j g d l = go (eq_or_le d n l)
    where
      eq_or_le : (d n : ℕ) → d ≤ suc n → (d ≡ suc n) ⊎ (d ≤ n)
      eq_or_le d n l = grind arith

      go : (d ≡ suc n) ⊎ (d ≤ n) → i d ≡ at_depth j (suc n) (i (suc n)) d
      go (inl e) = subst (λ (d : ℕ). i d ≡ at_depth j (suc n) (i (suc n)) d) (sym e) (sym (at_same j (suc n) (i (suc n))))
      go (inr e) = g d e ∙ sym (at_other j (suc n) (i (suc n)) d (λ z. absurd (omega arith)))

  -- the pass has the number of the iteration in which the run leaves
  pass_value : (i : Index) (h : ℕ) (B : List ℕ) → StayedIn i h B → LeftNow i h B → (j : Index) → AgreesTo (length B) i j
      → V (Over (op.Pass (length (h ∷ B))) (one (v.ending h))) j (vals.Count (i (length (h ∷ B))))
  pass_value i h B stayed left j g =
      mean.makes (op.Pass (length (h ∷ B))) (one (v.ending h)) j _ (record { k = i (length (h ∷ B)); count = refl; low = omega arith; ends = (vals.Num (num.Int (pos 1)), left _ (agrees_in (length B) i j g), refl); goes_on = λ l a m. (vals.Num (num.Int (pos 0)), stayed l m j g, refl) })

  -- what has a value in the iteration in which the run leaves has it outside, taken out
  out_value : (i : Index) (h : ℕ) (B : List ℕ) → f.around h ≡ h ∷ B → StayedIn i h B → LeftNow i h B
      → (a : Exp) (u : Val) → ((k : Index) → AgreesTo (length (h ∷ B)) i k → V a k u) → (j : Index) → AgreesTo (length B) i j → V (v.out h a) j u
  out_value i h B ah stayed left a u p j g = go (eqs.outs_are h a B ah)
    where
      there : V a (at_depth j (length (h ∷ B)) (i (length (h ∷ B)))) u
      there = p _ (agrees_in (length B) i j g)

      go : (FreeIn f v (length (h ∷ B)) a × (v.out h a ≡ Over (op.Eval (length (h ∷ B))) (two a (Over (op.Pass (length (h ∷ B))) (one (v.ending h))))))
          ⊎ ((FreeIn f v (length (h ∷ B)) a → ⊥) × (v.out h a ≡ a)) → V (v.out h a) j u
      go (inl z) = subst (λ (c : Exp). V c j u) (sym z.1) (mean.makes (op.Eval (length (h ∷ B))) _ j u (i (length (h ∷ B)), pass_value i h B stayed left j g, there))
      go (inr z) = subst (λ (c : Exp). V c j u) (sym z.1) (mean.unfree (length (h ∷ B)) (i (length (h ∷ B))) a j u z.0 there)

  pub faith_out : (i : Index) (h : ℕ) (B : List ℕ) → f.around h ≡ h ∷ B → StayedIn i h B → LeftNow i h B
      → (F : List ℕ) (j : Index) → Faith F B i j → Faith (h ∷ F) (h ∷ B) i j
  faith_out i h B ah stayed left F j faith a u p = faith (v.out h a) u (λ k g. out_value i h B ah stayed left a u p k g)

  token_value : (i : Index) (h : ℕ) (B : List ℕ) → f.around h ≡ h ∷ B → StayedIn i h B → LeftNow i h B
      → (a : Exp) → ((k : Index) → AgreesTo (length (h ∷ B)) i k → V a k vals.Unit) → (j : Index) → AgreesTo (length B) i j → V (v.entering h 0) j vals.Unit → V (token_out v f h a) j vals.Unit
  unfolding strict
  token_value i h B ah stayed left a p j g entered =
      subst (λ (A : List ℕ). V (made op.Both (two (v.entering h 0) (Over (op.Eval (length A)) (two a (Over (op.Pass (length A)) (one (v.ending h))))))) j vals.Unit) (sym ah)
      (made_makes op.Both refl (two (v.entering h 0) (Over (op.Eval (length (h ∷ B))) (two a (Over (op.Pass (length (h ∷ B))) (one (v.ending h)))))) j vals.Unit
      (vals.Unit ∷ vals.Unit ∷ [], (entered, (mean.makes (op.Eval (length (h ∷ B))) _ j vals.Unit (i (length (h ∷ B)), pass_value i h B stayed left j g, p _ (agrees_in (length B) i j g)), tt)), refl))

  pub token_outs_last : (C : List ℕ) (c : ℕ) (a : Exp) → token_outs v f (C ++ c ∷ []) a ≡ token_out v f c (token_outs v f C a)
  token_outs_last [] c a = refl
  token_outs_last (h ∷ C) c a = token_outs_last C c (token_out v f h a)

  -- what a run keeps for a loop around it: how it came to the loop, that the loop wasn't left, and the slots with which it was entered
  abbrev pub Entered : Index → ℕ → List ℕ → (ℕ → Val) → Type 0
  Entered i h B σ = ((k : Index) → AgreesTo (length B) i k → V (v.entering h 0) k vals.Unit) × ((s : ℕ) → f.carried h s ≡ false → (k : Index) → AgreesTo (length B) i k → V (v.entering h s) k (σ s))

  abbrev pub InLoop : Index → ℕ → List ℕ → (ℕ → Val) → Type 0
  InLoop i h B σ = Follows i B (h ∷ []) h × StayedIn i h B × Entered i h B σ

  abbrev pub Outer : Index → ℕ → (ℕ → Val) → Type 0
  Outer i b σ = (G : List ℕ) (h : ℕ) (B : List ℕ) → f.around b ≡ G ++ h ∷ B → InLoop i h B σ

  -- THE INVARIANT: the run has come to b with the slots σ, in the iterations i of the loops around b
  abbrev pub Here : Index → ℕ → (ℕ → Val) → Type 0
  Here i b σ = HasSlots i b σ × Follows i (f.around b) [] b × Outer i b σ × (σ 0 ≡ vals.Unit)

  -- what an exit gives, seen from a region in which the loops C are left
  arrives : (i : Index) (b : ℕ) (C D : List ℕ) (σ : ℕ → Val) (e : Exit) → Left i b C D → HasSlots i b σ → Chooses w x σ (f.chain b) e → (R F : List ℕ) → F ++ R ≡ D → (j : Index) → Faith F D i j
      → (t : Target) (s : ℕ) → Later rank t b → (p : Place) → Seen f R (C ++ F) e.dest p
      → (r : Option Exp) × AtPlace f v R t s (C ++ F) b e p r × Ends j (v.tree R t s (first_loops f D ++ F) (first_of_region f D)) r
  arrives i b C D σ e left val c R F z j faith t s l p q =
      let o = goes_on i b σ e val c R (C ++ F) (left.0 ∙ ap (λ (K : List ℕ). C ++ K) (sym z) ∙ sym (append_assoc C F R)) j
      (subst (λ (K : List ℕ). Faith (C ++ F) K i j) (sym left.0) (left.2 F j faith)) t s p q in
      (o.0, o.1, Ends_chain j _ _ _ (left.1 R F z j faith t s l) o.2)

  pub arrives_here : (i : Index) (b : ℕ) (C D : List ℕ) (σ : ℕ → Val) (e : Exit) → Left i b C D → HasSlots i b σ → Chooses w x σ (f.chain b) e → (k : Index) → AgreesTo (length D) i k
      → (t : Target) (s : ℕ) → Later rank t b → (p : Place) → Seen f D C e.dest p
      → (r : Option Exp) × AtPlace f v D t s C b e p r × Ends k (tree_of f v D t s) r
  arrives_here i b C D σ e left val c k g t s l p q =
      let nil = append-nil C in
      let o = arrives i b C D σ e left val c D [] refl k (faith_here D i k g) t s l p (subst (λ (K : List ℕ). Seen f D K e.dest p) (sym nil) q) in
      (o.0, subst (λ (K : List ℕ). AtPlace f v D t s K b e p o.0) nil o.1, subst (λ (K : List ℕ). Ends k (v.tree D t s K (first_of_region f D)) o.0) (append-nil (first_loops f D)) o.2)

  -- an expression that a tree gives has the values of what comes at the exit
  pub given_ends : (k : Index) (r q : Option Exp) (a y : Exp) → Given r a → Ends k r q → q ≡ Some y → (u : Val) → V a k u ↔ V y k u
  given_ends k r q a y g n z u = let o = n y z in subst (λ (c : Exp). V c k u ↔ V y k u) (sym (given_is r a o.0 g o.1)) (o.2 u)

  -- the place of an exit that leaves a region
  abbrev pub IsOut : Place → Type 0
  IsOut Gone = Unit {0}
  IsOut (Ended k) = Unit {0}
  IsOut p = ⊥

  out_leaves : (R : List ℕ) (s : ℕ) (F : List ℕ) (b : ℕ) (e : Exit) (p : Place) (r : Option Exp) → IsOut p → AtPlace f v R Leaving s F b e p r → r ≡ Some true_exp
  out_leaves R s F b e Gone r o h = h
  out_leaves R s F b e (Ended k) r o h = h
  out_leaves R s F b e (On G m) r o h = absurd o
  out_leaves R s F b e Again r o h = absurd o
  out_leaves R s F b e Header r o h = absurd o

  pub number : (n : ℕ) (j : Index) → V (Over (op.Int (pos n)) NoExp) j (vals.Num (num.Int (pos n)))
  unfolding strict
  number n j = mean.makes (op.Int (pos n)) NoExp j (vals.Num (num.Int (pos n))) ([], tt, refl)

  -- an exit that leaves a loop makes its ending 1
  pub left_now : (i : Index) (b : ℕ) (C B : List ℕ) (c : ℕ) (σ : ℕ → Val) (e : Exit) (p : Place) → f.around c ≡ c ∷ B → Left i b C (c ∷ B) → HasSlots i b σ → Chooses w x σ (f.chain b) e
      → Seen f (c ∷ B) C e.dest p → IsOut p → LeftNow i c B
  left_now i b C B c σ e p ac left val ch q out k g =
      let o = arrives_here i b C (c ∷ B) σ e left val ch k g Leaving 0 tt p q in
      (given_ends k _ o.0 (v.ending c) true_exp (eqs.endings c B ac) o.2 (out_leaves (c ∷ B) 0 C b e p o.0 out o.1) (vals.Num (num.Int (pos 1)))).1 (number 1 k)

  leave_one : (i : Index) (b c : ℕ) (C B : List ℕ) (σ : ℕ → Val) → f.around c ≡ c ∷ B → rank c ≤ rank b → Left i b C (c ∷ B) → InLoop i c B σ → LeftNow i c B → Left i b (C ++ c ∷ []) B
  leave_one i b c C B σ ac less left inside now' = (left.0 ∙ sym (append_assoc C (c ∷ []) B), follows, lifts, tokens)
    where
      follows : Follows i B (C ++ c ∷ []) b
      follows R F z j faith t s l =
          let first = inside.0 R F z j faith t s (Later_back rank t c b less l) in
          let rest_of = left.1 R (c ∷ F) (ap (λ (K : List ℕ). c ∷ K) z) j (faith_out i c B ac inside.1 now' F j faith) t s l in
          subst (λ (K : List ℕ). Ends j (v.tree R t s (first_loops f B ++ F) (first_of_region f B)) (v.tree R t s K b)) (sym (append_assoc C (c ∷ []) F)) (Ends_chain j _ _ _ first rest_of)

      lifts : Lifts i (C ++ c ∷ []) B
      lifts F j faith =
          subst₂ (λ (K L : List ℕ). Faith K L i j) (sym (append_assoc C (c ∷ []) F)) (sym (append_assoc C (c ∷ []) B)) (left.2 (c ∷ F) j (faith_out i c B ac inside.1 now' F j faith))

      tokens : TokenLifts i (C ++ c ∷ []) B
      tokens j g a p =
          let q = subst (λ (K : List ℕ). (k : Index) → AgreesTo (length K) i k → V a k vals.Unit) (append_assoc C (c ∷ []) B) p in
          subst (λ (y : Exp). V y j vals.Unit) (sym (token_outs_last C c a))
          (token_value i c B ac inside.1 now' (token_outs v f C a) (λ k h. left.3 k h a q) j g (inside.2.0 j g))

  -- all loops that an exit leaves are left
  leave : (i : Index) (b : ℕ) (σ : ℕ → Val) (e : Exit) → HasSlots i b σ → Outer i b σ → Chooses w x σ (f.chain b) e → (C0 C D : List ℕ) → Left i b C0 (C ++ D)
      → ((G : List ℕ) (c : ℕ) (B : List ℕ) → f.around b ≡ G ++ c ∷ B → length D ≤ length B → (p : Place) × Seen f (c ∷ B) G e.dest p × IsOut p) → Left i b (C0 ++ C) D
  leave i b σ e val outer ch C0 [] D left out = subst (λ (K : List ℕ). Left i b K D) (sym (append-nil C0)) left
  leave i b σ e val outer ch C0 (c ∷ C) D left out =
      let o = out C0 c (C ++ D) left.0 (simp length-append (omega arith)) in
      let h = shape.headers b c C0 (C ++ D) left.0 in
      let one' = leave_one i b c C0 (C ++ D) σ h.0 h.1 left (outer C0 c (C ++ D) left.0) (left_now i b C0 (C ++ D) c σ e o.0 h.0 left val ch o.1 o.2) in
      subst (λ (K : List ℕ). Left i b K D) (append_assoc C0 (c ∷ []) C) (leave i b σ e val outer ch (C0 ++ c ∷ []) C D one' out)

  left_none : (i : Index) (b : ℕ) (A : List ℕ) → f.around b ≡ A → Follows i (f.around b) [] b → Left i b [] A
  left_none i b A z fol = (z, subst (λ (K : List ℕ). Follows i K [] b) z fol, (λ F j faith. faith), (λ j g a p. p j g))

  pub leaves_all : (i : Index) (b : ℕ) (σ : ℕ → Val) (e : Exit) → Here i b σ → Chooses w x σ (f.chain b) e → (C D : List ℕ) → f.around b ≡ C ++ D
      → ((G : List ℕ) (c : ℕ) (B : List ℕ) → f.around b ≡ G ++ c ∷ B → length D ≤ length B → (p : Place) × Seen f (c ∷ B) G e.dest p × IsOut p) → Left i b C D
  leaves_all i b σ e here ch C D z out = leave i b σ e here.0 here.2 ch [] C D (left_none i b (C ++ D) z here.1) out

  -- a token at an exit is Unit
  token_done : (b : ℕ) (σ : ℕ → Val) (p : Part) (u : Val) → TokenPart p → σ 0 ≡ vals.Unit → PartIs w x σ p u → u ≡ vals.Unit
  token_done b σ p u kept z h = sym h ∙ z
  token_done b σ p u (calls s ps) z h = both_done h.0 h.1 h.2
    where
      both_done : (vs : List Val) → PartsAre w x σ (More (Slot 0) (More (Of (op.CallEnd s) refl ps) NoPart)) vs → strict w x op.Both vs ≡ Some u → u ≡ vals.Unit
      both_done vs y e =
          let same : vs ≡ y.0 ∷ y.3.0 ∷ [] = y.4 ∙ ap (λ (us : List Val). y.0 ∷ us) (y.3.4 ∙ ap (λ (us : List Val). y.3.0 ∷ us) y.3.3) in
          (both_says w x y.0 y.3.0 u (subst (λ (vs : List Val). strict w x op.Both vs ≡ Some u) same e)).2

  pub done_next : (b : ℕ) (σ τ : ℕ → Val) (e : Exit) → Steps w x f b σ e τ → σ 0 ≡ vals.Unit → τ 0 ≡ vals.Unit
  done_next b σ τ e st z = token_done b σ (e.slots 0) (τ 0) (shape.tokens b e (chooses_in w x σ (f.chain b) e st.0)) z (st.1 0)

  -- a slot at an exit, taken out of the loops that are left, has the machine's value
  pub leaf_value : (i : Index) (b : ℕ) (C D : List ℕ) (σ τ : ℕ → Val) (e : Exit) → Left i b C D → Here i b σ → Steps w x f b σ e τ → (k : Index) → AgreesTo (length D) i k → (s : ℕ) → V (leaf v f C b e s) k (τ s)
  leaf_value i b C D σ τ e left here st k g s = go s
    where
      inner : (s : ℕ) (m : Index) → AgreesTo (length (C ++ D)) i m → V (put (v.value b) (e.slots s)) m (τ s)
      inner s m h = put_value (v.value b) σ m (λ s. here.0 s m (subst (λ (A : List ℕ). AgreesTo (length A) i m) (sym left.0) h)) (e.slots s) (τ s) (st.1 s)

      go : (s : ℕ) → V (leaf v f C b e s) k (τ s)
      go zero =
          let z = done_next b σ τ e st here.3 in
          subst (V (token_outs v f C (put (v.value b) (e.slots 0))) k) (sym z) (left.3 k g (put (v.value b) (e.slots 0)) (λ m h. subst (V (put (v.value b) (e.slots 0)) m) z (inner 0 m h)))
      go (suc s) =
          subst (λ (K : List ℕ). V (outs v K (put (v.value b) (e.slots (suc s)))) k (τ (suc s))) (append-nil C)
          (left.2 [] k (faith_here D i k g) (put (v.value b) (e.slots (suc s))) (τ (suc s)) (inner (suc s)))

  -- what depends on iterations up to a depth
  follows_agree : (i i' : Index) (A G : List ℕ) (m : ℕ) → AgreesTo (length A) i i' → Follows i A G m → Follows i' A G m
  follows_agree i i' A G m g fol R F z j faith t s l = fol R F z j (λ a u p. faith a u (λ k h. p k (λ d y. g d y ∙ h d y))) t s l

  keep_loop : (i i' : Index) (h : ℕ) (B : List ℕ) (σ τ : ℕ → Val) → AgreesTo (length (h ∷ B)) i i' → ((s : ℕ) → f.carried h s ≡ false → σ s ≡ τ s) → InLoop i h B σ → InLoop i' h B τ
  keep_loop i i' h B σ τ g same in' = (
    follows_agree i i' B (h ∷ []) h (λ d y. g d (omega arith)) in'.0,
    (λ l less k y. in'.1 l (subst (λ (n : ℕ). l < n) (sym (g (length (h ∷ B)) (le_refl _))) less) k (λ d z. g d (omega arith) ∙ y d z)),
    (
      (λ k y. in'.2.0 k (λ d z. g d (omega arith) ∙ y d z)),
      (λ s c k y. subst (V (v.entering h s) k) (same s c) (in'.2.1 s c k (λ d z. g d (omega arith) ∙ y d z))),
    ),
  )

  kept_slots : (b m : ℕ) (σ τ : ℕ → Val) (e : Exit) (h : ℕ) (G B : List ℕ) → f.around b ≡ G ++ h ∷ B → Steps w x f b σ e τ → e.dest ≡ To m → (s : ℕ) → f.carried h s ≡ false → σ s ≡ τ s
  kept_slots b m σ τ e h G B z st d s c = subst (λ (p : Part). PartIs w x σ p (τ s)) (shape.keeps b m h s G B e z c (chooses_in w x σ (f.chain b) e st.0) d) (st.1 s)

  -- the loops that go on around b after a step out of C
  outer_keep : (i i' : Index) (b m : ℕ) (C D : List ℕ) (σ τ : ℕ → Val) (e : Exit) → f.around b ≡ C ++ D → Here i b σ → Steps w x f b σ e τ → e.dest ≡ To m
      → (G : List ℕ) (h : ℕ) (B : List ℕ) → D ≡ G ++ h ∷ B → AgreesTo (length (h ∷ B)) i i' → InLoop i' h B τ
  outer_keep i i' b m C D σ τ e z here st d G h B y g =
      let a : f.around b ≡ (C ++ G) ++ h ∷ B = z ∙ ap (λ (K : List ℕ). C ++ K) y ∙ sym (append_assoc C G (h ∷ B)) in
      keep_loop i i' h B σ τ g (kept_slots b m σ τ e h (C ++ G) B a st d) (here.2 (C ++ G) h B a)

  depth_inside : (D G : List ℕ) (h : ℕ) (B : List ℕ) → D ≡ G ++ h ∷ B → length (h ∷ B) ≤ length D
  depth_inside D G h B e = let z : length D ≡ length G + length (h ∷ B) = simp length-append at (ap length e) in omega arith

  pub node_leaf : (R : List ℕ) (s : ℕ) (F : List ℕ) (b : ℕ) (e : Exit) (G : List ℕ) (m : ℕ) (r : Option Exp) → (G ≡ []) ⊎ (G ≡ m ∷ []) → AtPlace f v R (Node m) s F b e (On G m) r → r ≡ Some (leaf v f F b e s)
  node_leaf R s F b e G m r g (inl h) = h.2
  node_leaf R s F b e G m r (inl g) (inr h) = absurd (⊎_elim (λ z. z refl) (λ z. z.0 g) h.0)
  node_leaf R s F b e G m r (inr g) (inr h) = absurd (⊎_elim (λ z. z refl) (λ z. z.1 g) h.0)

  -- the run comes to m in the region inside D, out of the loops C
  follows_to : (i : Index) (b m : ℕ) (C D M : List ℕ) (σ : ℕ → Val) (e : Exit) → Left i b C D → HasSlots i b σ → Chooses w x σ (f.chain b) e → rank b < rank m
      → ((R F : List ℕ) → F ++ R ≡ D → Seen f R (C ++ F) e.dest (On (M ++ F) m)) → Follows i D M m
  follows_to i b m C D M σ e left val ch less seen R F z j faith t s l =
      let o = arrives i b C D σ e left val ch R F z j faith t s (Later_back rank t b m (omega arith) l) (On (M ++ F) m) (seen R F z) in
      subst (λ (r : Option Exp). Ends j (v.tree R t s (first_loops f D ++ F) (first_of_region f D)) r) (at_on R t s (C ++ F) b e (M ++ F) m o.0 l o.1) o.2

  -- the slots of the node m at the exit
  node_value : (i : Index) (b m : ℕ) (C D M : List ℕ) (σ τ : ℕ → Val) (e : Exit) (a : ℕ → Exp) → Left i b C D → Here i b σ → Steps w x f b σ e τ → rank b < rank m → (M ≡ []) ⊎ (M ≡ m ∷ [])
      → Seen f D C e.dest (On M m) → ((s : ℕ) → Given (tree_of f v D (Node m) s) (a s)) → (s : ℕ) (k : Index) → AgreesTo (length D) i k → V (a s) k (τ s)
  node_value i b m C D M σ τ e a left here st less node seen given s k g =
      let o = arrives_here i b C D σ e left here.0 st.0 k g (Node m) s less (On M m) seen in
      (given_ends k _ o.0 (a s) (leaf v f C b e s) (given s) o.2 (node_leaf D s C b e M m o.0 node o.1) (τ s)).1 (leaf_value i b C D σ τ e left here st k g s)

  -- STEP 1: out of the loops C to a block of the region inside D
  pub step_on : (i : Index) (b m : ℕ) (C D : List ℕ) (σ τ : ℕ → Val) (e : Exit) → Here i b σ → Steps w x f b σ e τ → e.dest ≡ To m
      → f.around b ≡ C ++ D → rank b < rank m → m ≢ f.entry → f.around m ≡ D → (Heads D m → ⊥) → Here i m τ
  step_on i b m C D σ τ e here st d z less ne am nh = (slots, fol, outer, done_next b σ τ e st here.3)
    where
      lost : (G : List ℕ) (c : ℕ) (B : List ℕ) → f.around b ≡ G ++ c ∷ B → length D ≤ length B → (p : Place) × Seen f (c ∷ B) G e.dest p × IsOut p
      lost G c B y l = (
        Gone,
        subst (λ (d : Dest). Seen f (c ∷ B) G d Gone) (sym d)
            (lands_gone G (c ∷ B) (f.around m) m (let q : length (f.around m) ≡ length D = ap length am in omega arith) (λ y. let q : length D ≡ length (c ∷ B) = sym (ap length am) ∙ ap length y in absurd (omega arith))),
        tt,
      )

      left : Left i b C D
      left = leaves_all i b σ e here st.0 C D z lost

      seen : (R F : List ℕ) → F ++ R ≡ D → Seen f R (C ++ F) e.dest (On ([] ++ F) m)
      seen R F y = subst (λ (d : Dest). Seen f R (C ++ F) d (On F m)) (sym d) (lands_on C F R (f.around m) m (am ∙ sym y) (λ q. nh (subst (λ (A : List ℕ). Heads A m) am q)))

      slots : HasSlots i m τ
      slots s k g =
          node_value i b m C D [] σ τ e (v.value m) left here st less (inl refl) (subst (λ (K : List ℕ). Seen f D K e.dest (On [] m)) (append-nil C) (seen D [] refl))
          (λ s. subst (λ (A : List ℕ). Given (tree_of f v A (Node m) s) (v.value m s)) am (eqs.blocks m s (λ q. nh (subst (λ (A : List ℕ). Heads A m) am q)) ne))
          s k (subst (λ (A : List ℕ). AgreesTo (length A) i k) am g)

      fol : Follows i (f.around m) [] m
      fol = subst (λ (A : List ℕ). Follows i A [] m) (sym am) (follows_to i b m C D [] σ e left here.0 st.0 less seen)

      outer : Outer i m τ
      outer G h B y = outer_keep i i b m C D σ τ e z here st d G h B (sym am ∙ y) (λ d l. refl)

  pub agrees_under : (n c : ℕ) (i k : Index) → AgreesTo (suc n) (at_depth i (suc n) c) k → AgreesTo n i k
  agrees_under n c i k g d l = sym (at_other i (suc n) c d (λ z. absurd (omega arith))) ∙ g d (omega arith)

  pub agrees_at : (n c : ℕ) (i k : Index) → AgreesTo (suc n) (at_depth i (suc n) c) k → k (suc n) ≡ c
  agrees_at n c i k g = sym (g (suc n) (le_refl _)) ∙ at_same i (suc n) c

  pub agrees_self : (n c : ℕ) (i : Index) → AgreesTo n i (at_depth i (suc n) c)
  agrees_self n c i d l = sym (at_other i (suc n) c d (λ z. absurd (omega arith)))

  -- the slots at a header: names where they are carried
  header_slots : (i : Index) (h : ℕ) (B : List ℕ) (τ : ℕ → Val) → f.around h ≡ h ∷ B
      → ((s : ℕ) (k : Index) → AgreesTo (length (h ∷ B)) i k → V (Over (op.Theta (length (h ∷ B))) (two (first_kid v h s) (v.again h s))) k (τ s))
      → ((s : ℕ) → f.carried h s ≡ false → (k : Index) → AgreesTo (length B) i k → V (v.entering h s) k (τ s)) → HasSlots i h τ
  header_slots i h B τ ah thetas others s k g = go (f.carried h s) refl
    where
      g' : AgreesTo (length (h ∷ B)) i k
      g' = subst (λ (A : List ℕ). AgreesTo (length A) i k) ah g

      go : (c : Bool) → f.carried h s ≡ c → V (v.value h s) k (τ s)
      go true z = subst (λ (a : Exp). V a k (τ s)) (sym (eqs.names h s B ah z)) ((mean.tied h s B k (τ s) ah z).1 (thetas s k g'))
      go false z = subst (λ (a : Exp). V a k (τ s)) (sym (eqs.others h s B ah z)) (others s z k (λ d l. g' d (omega arith)))

  pub unit_value : (j : Index) → V unit_exp j vals.Unit
  unfolding strict
  unit_value j = mean.makes op.Unit NoExp j vals.Unit ([], tt, refl)

  -- the loop inside B is entered with the slots τ: iteration 0
  first_iteration : (i : Index) (m : ℕ) (D : List ℕ) (τ : ℕ → Val) → f.around m ≡ m ∷ D → τ 0 ≡ vals.Unit → ((s : ℕ) (k : Index) → AgreesTo (length D) i k → V (v.entering m s) k (τ s))
      → HasSlots (at_depth i (suc (length D)) 0) m τ
  first_iteration i m D τ am done entered =
      header_slots (at_depth i (suc (length D)) 0) m D τ am
      (λ s k g. mean.makes (op.Theta (length (m ∷ D))) (two (first_kid v m s) (v.again m s)) k (τ s) (inl (agrees_at (length D) 0 i k g, kid s k (agrees_under (length D) 0 i k g))))
      (λ s c k g. entered s k (λ d l. agrees_self (length D) 0 i d l ∙ g d l))
    where
      kid : (s : ℕ) (k : Index) → AgreesTo (length D) i k → V (first_kid v m s) k (τ s)
      kid zero k g = subst (V unit_exp k) (sym done) (unit_value k)
      kid (suc s) k g = entered (suc s) k g

  start_loop : (i : Index) (m : ℕ) (D : List ℕ) (τ : ℕ → Val) → τ 0 ≡ vals.Unit → ((s : ℕ) (k : Index) → AgreesTo (length D) i k → V (v.entering m s) k (τ s)) → Follows i D (m ∷ []) m
      → InLoop (at_depth i (suc (length D)) 0) m D τ
  start_loop i m D τ done entered fol = (
    follows_agree i (at_depth i (suc (length D)) 0) D (m ∷ []) m (agrees_self (length D) 0 i) fol,
    (λ l less k y. absurd (let z : l < 0 = subst (λ (n : ℕ). l < n) (at_same i (suc (length D)) 0) less in omega arith)),
    (
      (λ k y. subst (V (v.entering m 0) k) done (entered 0 k (λ d l. agrees_self (length D) 0 i d l ∙ y d l))),
      (λ s c k y. entered s k (λ d l. agrees_self (length D) 0 i d l ∙ y d l)),
    ),
  )

  follows_header : (i : Index) (h : ℕ) (B : List ℕ) → f.around h ≡ h ∷ B → Follows i (f.around h) [] h
  follows_header i h B ah = subst (λ (A : List ℕ). Follows i A [] h) (sym ah) (λ R F z j faith t s l. Ends_refl j (v.tree R t s F h))

  -- a loop around a header is its own, or one further out
  outer_header : (i : Index) (h : ℕ) (B : List ℕ) (τ : ℕ → Val) → f.around h ≡ h ∷ B → InLoop i h B τ → ((G : List ℕ) (l : ℕ) (C : List ℕ) → B ≡ G ++ l ∷ C → InLoop i l C τ) → Outer i h τ
  outer_header i h B τ ah own others [] l C y =
      let z : h ∷ B ≡ l ∷ C = sym ah ∙ y in subst₂ (λ (l : ℕ) (C : List ℕ). InLoop i l C τ) (let q : h ≡ l = cc in q) (let q : B ≡ C = cc in q) own
  outer_header i h B τ ah own others (g ∷ G) l C y =
      let z : h ∷ B ≡ g ∷ (G ++ l ∷ C) = sym ah ∙ y in others G l C (let q : B ≡ G ++ l ∷ C = cc in q)

  -- STEP 2: out of the loops C and into the loop m
  pub step_in : (i : Index) (b m : ℕ) (C D : List ℕ) (σ τ : ℕ → Val) (e : Exit) → Here i b σ → Steps w x f b σ e τ → e.dest ≡ To m
      → f.around b ≡ C ++ D → rank b < rank m → m ≢ f.entry → f.around m ≡ m ∷ D → Here (at_depth i (suc (length D)) 0) m τ
  step_in i b m C D σ τ e here st d z less ne am = (first_iteration i m D τ am done entered, follows_header _ m D am, outer_header _ m D τ am (start_loop i m D τ done entered fol) outer, done)
    where
      done : τ 0 ≡ vals.Unit
      done = done_next b σ τ e st here.3

      other : (X Y : List ℕ) (c : ℕ) → C ≡ X ++ c ∷ Y → c ≢ m
      other X Y c y q =
          let r = shape.headers b c X (Y ++ D) (z ∙ ap (λ (K : List ℕ). K ++ D) y ∙ append_assoc X (c ∷ Y) D) in
          absurd (let p : rank c ≡ rank m = ap rank q in let o = r.1 in omega arith)

      lost : (G : List ℕ) (c : ℕ) (B : List ℕ) → f.around b ≡ G ++ c ∷ B → length D ≤ length B → (p : Place) × Seen f (c ∷ B) G e.dest p × IsOut p
      lost G c B y l = (
        Gone,
        subst (λ (d : Dest). Seen f (c ∷ B) G d Gone) (sym d)
            (lands_gone G (c ∷ B) (f.around m) m (let q : length (f.around m) ≡ suc (length D) = ap length am in omega arith)
            (λ q. let r = shape.headers b c G B y in let o : m ∷ D ≡ c ∷ B = sym am ∙ q in let n : m ≡ c = cc in let p : rank m ≡ rank c = ap rank n in let u = r.1 in absurd (omega arith))),
        tt,
      )

      left : Left i b C D
      left = leaves_all i b σ e here st.0 C D z lost

      seen : (R F : List ℕ) → F ++ R ≡ D → Seen f R (C ++ F) e.dest (On (m ∷ F) m)
      seen R F y = subst (λ (d : Dest). Seen f R (C ++ F) d (On (m ∷ F) m)) (sym d) (lands_in C F R (f.around m) m (am ∙ ap (λ (K : List ℕ). m ∷ K) (sym y)) other)

      entered : (s : ℕ) (k : Index) → AgreesTo (length D) i k → V (v.entering m s) k (τ s)
      entered = node_value i b m C D (m ∷ []) σ τ e (v.entering m) left here st less (inr refl) (subst (λ (K : List ℕ). Seen f D K e.dest (On (m ∷ []) m)) (append-nil C) (seen D [] refl)) (λ s. eqs.entries m s D am ne)

      fol : Follows i D (m ∷ []) m
      fol = follows_to i b m C D (m ∷ []) σ e left here.0 st.0 less seen

      outer : (G : List ℕ) (l : ℕ) (B : List ℕ) → D ≡ G ++ l ∷ B → InLoop (at_depth i (suc (length D)) 0) l B τ
      outer G l B y = outer_keep i _ b m C D σ τ e z here st d G l B y (λ d q. agrees_self (length D) 0 i d (let o = depth_inside D G l B y in omega arith))

  -- STEP 3: out of the loops C and back to the header of the loop m
  pub step_back : (i : Index) (b m : ℕ) (C B : List ℕ) (σ τ : ℕ → Val) (e : Exit) → Here i b σ → Steps w x f b σ e τ → e.dest ≡ To m
      → f.around b ≡ C ++ m ∷ B → f.around m ≡ m ∷ B → Here (at_depth i (suc (length B)) (suc (i (suc (length B))))) m τ
  step_back i b m C B σ τ e here st d z am =
      (header_slots _ m B τ am thetas inside.2.1, follows_header _ m B am, outer_header _ m B τ am inside outer, done_next b σ τ e st here.3)
    where
      i' : Index
      i' = at_depth i (suc (length B)) (suc (i (suc (length B))))

      same : AgreesTo (length B) i i'
      same = agrees_self (length B) _ i

      lost : (G : List ℕ) (c : ℕ) (A : List ℕ) → f.around b ≡ G ++ c ∷ A → length (m ∷ B) ≤ length A → (p : Place) × Seen f (c ∷ A) G e.dest p × IsOut p
      lost G c A y l = (
        Gone,
        subst (λ (d : Dest). Seen f (c ∷ A) G d Gone) (sym d)
            (lands_gone G (c ∷ A) (f.around m) m (let q : length (f.around m) ≡ length (m ∷ B) = ap length am in omega arith) (λ y. let q : length (m ∷ B) ≡ length (c ∷ A) = sym (ap length am) ∙ ap length y in absurd (omega arith))),
        tt,
      )

      left : Left i b C (m ∷ B)
      left = leaves_all i b σ e here st.0 C (m ∷ B) z lost

      seen : Seen f (m ∷ B) C e.dest Header
      seen = subst (λ (d : Dest). Seen f (m ∷ B) C d Header) (sym d) (lands_header C B (f.around m) m am)

      before : InLoop i m B σ
      before = here.2 C m B z

      kept' : (s : ℕ) → f.carried m s ≡ false → σ s ≡ τ s
      kept' = kept_slots b m σ τ e m C B z st d

      stayed : StayedIn i' m B
      stayed l less k g = go (split l (i (suc (length B))) (subst (λ (n : ℕ). l < n) (at_same i (suc (length B)) _) less))
        where
          split : (l n : ℕ) → l < suc n → (l < n) ⊎ (l ≡ n)
          split l n e = grind arith

          old : AgreesTo (length B) i k
          old d y = same d y ∙ g d y

          stays : V (v.ending m) (at_depth k (suc (length B)) (i (suc (length B)))) (vals.Num (num.Int (pos 0)))
          stays =
              let o = arrives_here i b C (m ∷ B) σ e left here.0 st.0 _ (agrees_in (length B) i k old) Leaving 0 tt Header seen in
              (given_ends _ _ o.0 (v.ending m) false_exp (eqs.endings m B am) o.2 o.1 (vals.Num (num.Int (pos 0)))).1 (number 0 _)

          go : (l < i (suc (length B))) ⊎ (l ≡ i (suc (length B))) → V (v.ending m) (at_depth k (suc (length B)) l) (vals.Num (num.Int (pos 0)))
          go (inl y) = before.1 l y k old
          go (inr y) = subst (λ (l : ℕ). V (v.ending m) (at_depth k (suc (length B)) l) (vals.Num (num.Int (pos 0)))) (sym y) stays

      inside : InLoop i' m B τ
      inside = (
        follows_agree i i' B (m ∷ []) m same before.0,
        stayed,
        ((λ k g. before.2.0 k (λ d l. same d l ∙ g d l)), (λ s c k g. subst (V (v.entering m s) k) (kept' s c) (before.2.1 s c k (λ d l. same d l ∙ g d l)))),
      )

      thetas : (s : ℕ) (k : Index) → AgreesTo (length (m ∷ B)) i' k → V (Over (op.Theta (length (m ∷ B))) (two (first_kid v m s) (v.again m s))) k (τ s)
      thetas s k g =
          let n = i (suc (length B)) in
          let old : AgreesTo (length (m ∷ B)) i (at_depth k (suc (length B)) n) = agrees_in (length B) i k (agrees_under (length B) (suc n) i k g) in
          let o = arrives_here i b C (m ∷ B) σ e left here.0 st.0 _ old Back s tt Header seen in
          mean.makes (op.Theta (length (m ∷ B))) (two (first_kid v m s) (v.again m s)) k (τ s)
          (inr (
            n,
            agrees_at (length B) (suc n) i k g,
            (given_ends _ _ o.0 (v.again m s) (leaf v f C b e s) (eqs.agains m s B am) o.2 o.1 (τ s)).1 (leaf_value i b C (m ∷ B) σ τ e left here st _ old s),
          ))

      outer : (G : List ℕ) (l : ℕ) (A : List ℕ) → B ≡ G ++ l ∷ A → InLoop i' l A τ
      outer G l A y = outer_keep i i' b m C (m ∷ B) σ τ e z here st d (m ∷ G) l A (ap (λ (K : List ℕ). m ∷ K) y) (λ d q. same d (let o = depth_inside B G l A y in omega arith))

  -- the tree of the top region for Return or Throw, or for Return alone
  abbrev pub Looks : Kind → Target → Type 0
  Looks k Finish = Unit {0}
  Looks Return Returning = Unit {0}
  Looks k t = ⊥

  -- STEP 4: the end
  pub step_end : (i : Index) (b : ℕ) (σ τ : ℕ → Val) (e : Exit) (k : Kind) → Here i b σ → Steps w x f b σ e τ → e.dest ≡ End k
      → (t : Target) (s : ℕ) → Looks k t → (j : Index) → i 0 ≡ j 0 → (y : Exp) × (tree_of f v [] t s ≡ Some y) × V y j (τ s)
  step_end i b σ τ e k here st d t s look j g = go t k look d
    where
      lost : (k : Kind) → e.dest ≡ End k → (G : List ℕ) (c : ℕ) (B : List ℕ) → f.around b ≡ G ++ c ∷ B → length {A = ℕ} [] ≤ length B → (p : Place) × Seen f (c ∷ B) G e.dest p × IsOut p
      lost k d G c B y l = (Ended k, subst (λ (d : Dest). Seen f (c ∷ B) G d (Ended k)) (sym d) refl, tt)

      left : (k : Kind) → e.dest ≡ End k → Left i b (f.around b) []
      left k d = leaves_all i b σ e here st.0 (f.around b) [] (sym (append-nil (f.around b))) (lost k d)

      agree : AgreesTo 0 i j
      agree d l = let z : d ≡ 0 = omega arith in subst (λ (d : ℕ). i d ≡ j d) (sym z) g

      finish : (k : Kind) → (d : e.dest ≡ End k) → (t : Target) → Later rank t b → ((r : Option Exp) → AtPlace f v [] t s (f.around b) b e (Ended k) r → r ≡ Some (leaf v f (f.around b) b e s))
          → (y : Exp) × (tree_of f v [] t s ≡ Some y) × V y j (τ s)
      finish k d t l at' =
          let o = arrives_here i b (f.around b) [] σ e (left k d) here.0 st.0 j agree t s l (Ended k) (subst (λ (d : Dest). Seen f [] (f.around b) d (Ended k)) (sym d) refl) in
          let r = o.2 (leaf v f (f.around b) b e s) (at' o.0 o.1) in
          (r.0, r.1, (r.2 (τ s)).1 (leaf_value i b (f.around b) [] σ τ e (left k d) here st j agree s))

      go : (t : Target) (k : Kind) → Looks k t → e.dest ≡ End k → (y : Exp) × (tree_of f v [] t s ≡ Some y) × V y j (τ s)
      go Finish k l d = finish k d Finish tt (λ r z. z)
      go Returning Return l d = finish Return d Returning tt (λ r z. z)
      go t k l d = absurd l

  pub starts_done : (σ : ℕ → Val) → Starts w x f σ → σ 0 ≡ vals.Unit
  starts_done σ st = let z = subst (λ (o : Op). strict w x o [] ≡ Some (σ 0)) shape.starts_unit (st 0) in unit_start w x (σ 0) z

  start_value : (σ : ℕ → Val) → Starts w x f σ → (s : ℕ) (k : Index) → V (at_start f s) k (σ s)
  start_value σ st s k = mean.makes (f.start s) NoExp k (σ s) (subst (λ (m : ops.Shape). Means w x V m (f.start s) [] k (σ s)) (sym (f.start_plain s)) ([], tt, st s))

  -- the run begins
  pub step_start : (σ : ℕ → Val) → Starts w x f σ → (j : Index) → (i : Index) × Here i f.entry σ × (i 0 ≡ j 0) × ((h : ℕ) (B : List ℕ) → f.around f.entry ≡ h ∷ B → i (length (h ∷ B)) ≡ 0)
  step_start σ st j = go shape.first
    where
      no_cons : (G : List ℕ) (h : ℕ) (B : List ℕ) → [] ≡ G ++ h ∷ B → ⊥
      no_cons [] h B e = absurd (cc)
      no_cons (g ∷ G) h B e = absurd (cc)

      none : f.around f.entry ≡ [] → (h : ℕ) (B : List ℕ) → f.around f.entry ≡ h ∷ B → ⊥
      none a h B e = no_cons [] h B (sym a ∙ e)

      go : (f.around f.entry ≡ []) ⊎ (f.around f.entry ≡ f.entry ∷ []) → (i : Index) × Here i f.entry σ × (i 0 ≡ j 0) × ((h : ℕ) (B : List ℕ) → f.around f.entry ≡ h ∷ B → i (length (h ∷ B)) ≡ 0)
      go (inl a) = (
        j,
        (
          (λ s k g. subst (λ (e : Exp). V e k (σ s)) (sym (eqs.starts s (λ q. none a f.entry q.0 q.1))) (start_value σ st s k)),
          subst (λ (A : List ℕ). Follows j A [] f.entry) (sym a)
              (λ R F z i faith t s l. subst (λ (A : List ℕ). Ends i (v.tree R t s (A ++ F) f.entry) (v.tree R t s F f.entry)) (sym a) (Ends_refl i (v.tree R t s F f.entry))),
          (λ G h B e. absurd (no_cons G h B (sym a ∙ e))),
          starts_done σ st,
        ),
        refl,
        (λ h B e. absurd (none a h B e)),
      )
      go (inr a) = (
        at_depth j 1 0,
        (
          first_iteration j f.entry [] σ a (starts_done σ st) entered,
          follows_header _ f.entry [] a,
          outer_header _ f.entry [] σ a (start_loop j f.entry [] σ (starts_done σ st) entered
              (λ R F z i faith t s l. subst (λ (A : List ℕ). Ends i (v.tree R t s (A ++ F) f.entry) (v.tree R t s (f.entry ∷ F) f.entry)) (sym a) (Ends_refl i _)))
              (λ G l C e. absurd (no_cons G l C e)),
          starts_done σ st,
        ),
        at_other j 1 0 0 (λ z. absurd (omega arith)),
        (λ h B e. let q : f.entry ∷ [] ≡ h ∷ B = sym a ∙ e in subst (λ (C : List ℕ). at_depth j 1 0 (suc (length C)) ≡ 0) (let r : [] ≡ B = cc in r) (at_same j 1 0)),
      )
        where
          entered : (s : ℕ) (k : Index) → AgreesTo (length {A = ℕ} []) j k → V (v.entering f.entry s) k (σ s)
          entered s k g = subst (λ (e : Exp). V e k (σ s)) (sym (eqs.first_entries s ([], a))) (start_value σ st s k)

  -- any step keeps the invariant
  pub step_next : (i : Index) (b m : ℕ) (σ τ : ℕ → Val) (e : Exit) → Here i b σ → Steps w x f b σ e τ → e.dest ≡ To m → (i' : Index) × Here i' m τ × (i 0 ≡ i' 0)
  step_next i b m σ τ e here st d = go (shape.edges b m e (chooses_in w x σ (f.chain b) e st.0) d)
    where
      go : Edge f rank b m → (i' : Index) × Here i' m τ × (i 0 ≡ i' 0)
      go (C, D, z, inl q) =
          let am : f.around m ≡ m ∷ q.1.0 = q.0 ∙ q.1.1 in
          (_, step_back i b m C q.1.0 σ τ e here st d (z ∙ ap (λ (K : List ℕ). C ++ K) q.1.1) am, agrees_self (length q.1.0) _ i 0 (omega arith))
      go (C, D, z, inr (less, ne, inl q)) = (i, step_on i b m C D σ τ e here st d z less ne q.0 (λ h. q.1 h), refl)
      go (C, D, z, inr (less, ne, inr q)) = (_, step_in i b m C D σ τ e here st d z less ne q, agrees_self (length D) 0 i 0 (omega arith))

  run_ends : (k : Kind) (τ : ℕ → Val) (b : ℕ) (σ : ℕ → Val) → Runs w x f k τ b σ → (i : Index) → Here i b σ → (t : Target) (s : ℕ) → Looks k t → (j : Index) → i 0 ≡ j 0 → (y : Exp) × (tree_of f v [] t s ≡ Some y) × V y j (τ s)
  run_ends k τ b σ (ends c χ e st d) i here t s l j g = step_end i c χ τ e k here st d t s l j g
  run_ends k τ b σ (goes c m χ ρ e st d rest) i here t s l j g =
      let o = step_next i c m χ ρ e here st d in
      run_ends k τ m ρ rest o.0 o.1 t s l j (sym o.2 ∙ g)

  -- MACHINE TO GRAPH: where a run from the entry ends with the slots τ, the trees of the top region have these values
  pub machine_to_graph : (k : Kind) (σ τ : ℕ → Val) → Starts w x f σ → Runs w x f k τ f.entry σ → (t : Target) → Looks k t → (s : ℕ) (j : Index) → (y : Exp) × (tree_of f v [] t s ≡ Some y) × V y j (τ s)
  machine_to_graph k σ τ st run t l s j = let o = step_start σ st j in run_ends k τ f.entry σ run o.0 o.1 t s l j o.2
