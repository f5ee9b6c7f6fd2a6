-- What a token's value outside a loop says of the blocks inside.
use Rattle.std.proofs.Common.{◌≡◌, ℕ, zero, suc, ◌<◌, ◌≤◌, List, [], ◌∷◌, ◌++◌, length, Option, ◌⊎◌, inl, inr, ⊎_elim, refl, sym, ap, ◌∙◌, subst, subst₂, append-nil, append_assoc, length-append, arith}
use Rattle.pv_conversion.proofs.Words.{World, Input, Val, Index, at_depth, Exp, Over, one, two, put, Exit, InChain, Flow, Shape, Target, Node, On, Values, outs, token_out, token_outs, leaf, first_of_region, first_loops, tree_of, Given, FreeIn, AreEquations, About, IsNode, Later, Walk, Walks, about, go, seen_to, snoc_same, stop, walk_around, walk_rank, walk_split, walk_then, walks_end, walks_rank, Meaning}
use Rattle.pv_value.specs.declared.outcome.Val.TheVariants as vals
use Rattle.pv_graph.specs.declared.node.Op.TheVariants as op
use Rattle.pv_conversion.proofs.Follow.{given_is, AgreesTo, Later_back, Ends, Ends_chain, Ends_refl, Follows, faith_here, agrees_self, token_outs_last}
use Rattle.pv_conversion.proofs.Leaves.{IsSnoc, snoc_of, no_snoc, tree_leaf, some_node, token_out_says, keeps_token, OfGoing, Evidence, Any, node_evidence}

app_none : (P E : List ℕ) (h : ℕ) → P ++ (E ++ h ∷ []) ≡ [] → ⊥
app_none [] [] h e = absurd (cc)
app_none [] (k ∷ E) h e = absurd (cc)
app_none (p ∷ P) E h e = absurd (cc)

module _ (w : World) (x : Input) (V : Exp → Index → Val → Type 0) (f : Flow) (v : Values) (rank : ℕ → ℕ) (mean : Meaning w x V f v) (eqs : AreEquations f v) (shape : Shape f rank)
    (top : ℕ) (below_top : (b : ℕ) → rank b < top) where
  abbrev pub EndsAt : Index → Option Exp → Option Exp → Type 0
  EndsAt j a b = Ends w x V f v rank mean eqs shape j a b

  -- a walk to a place inside the loop k begins inside it, or comes to its header
  enters : (R F : List ℕ) (b : ℕ) (H : List ℕ) (n : ℕ) → Walk f R F b H n → f.around b ≡ F ++ R → (k : ℕ) (L : List ℕ) → H ≡ L ++ k ∷ []
      → ((L : List ℕ) × (F ≡ L ++ k ∷ [])) ⊎ (Walks f R F b (k ∷ []) k × Walk f R (k ∷ []) k H n)
  enters R F b H n (stop K o) a k L z = inl (L, z)
  enters R F b H n (go K o e G m M q c h rest) a k L z = next (enters R G m M q rest (seen_to f R K e.dest G m h).1 k L z)
    where
      i : About f rank R K o m (On G m)
      i = about f rank shape R K o m e (On G m) a c (seen_to f R K e.dest G m h).0 h

      into : (X : List ℕ) → i.4 ≡ X → G ≡ m ∷ X → (L : List ℕ) → G ≡ L ++ k ∷ [] → ((L : List ℕ) × (K ≡ L ++ k ∷ [])) ⊎ (Walks f R K o (k ∷ []) k × Walk f R (k ∷ []) k M q)
      into [] y g L z =
          let same = (snoc_same [] L m k (sym g ∙ z)).1 in
          let there : G ≡ k ∷ [] = g ∙ ap (λ (m : ℕ). m ∷ []) same in
          inr (
            (e, G, m, c, h, subst₂ (λ (G : List ℕ) (m : ℕ). Walk f R G m (k ∷ []) k) (sym there) (sym same) (stop (k ∷ []) k)),
            subst₂ (λ (G : List ℕ) (m : ℕ). Walk f R G m M q) there same rest,
          )
      into (l ∷ X) y g L z =
          let s = snoc_of l X in
          let same = (snoc_same (m ∷ s.0) L s.1 k (ap (λ (Y : List ℕ). m ∷ Y) (sym s.2) ∙ sym g ∙ z)).1 in
          inl (i.3 ++ s.0, i.5 ∙ ap (λ (Y : List ℕ). i.3 ++ Y) (y ∙ s.2 ∙ ap (λ (k : ℕ). s.0 ++ k ∷ []) same) ∙ sym (append_assoc i.3 s.0 (k ∷ [])))

      next : ((L : List ℕ) × (G ≡ L ++ k ∷ [])) ⊎ (Walks f R G m (k ∷ []) k × Walk f R (k ∷ []) k M q) → ((L : List ℕ) × (K ≡ L ++ k ∷ [])) ⊎ (Walks f R K o (k ∷ []) k × Walk f R (k ∷ []) k M q)
      next (inl (L, z)) = ⊎_elim
          (λ y. inl (i.3 ++ L, i.5 ∙ ap (λ (Y : List ℕ). i.3 ++ Y) (sym y.0 ∙ z) ∙ sym (append_assoc i.3 L (k ∷ []))))
          (λ y. into i.4 refl y.0 L z) i.6
      next (inr y) = inr ((e, G, m, c, h, go G m y.0.0 y.0.1 y.0.2 (k ∷ []) k y.0.3 y.0.4 y.0.5), y.1)

  unwalk : (R F : List ℕ) (b : ℕ) (H : List ℕ) (n : ℕ) → Walk f R F b H n → ((F ≡ H) × (b ≡ n)) ⊎ Walks f R F b H n
  unwalk R F b H n (stop K o) = inl (refl, refl)
  unwalk R F b H n (go K o e G m L q a h rest) = inr (e, G, m, a, h, rest)

  walks_then : (R F : List ℕ) (b : ℕ) (G : List ℕ) (m : ℕ) (H : List ℕ) (n : ℕ) → Walks f R F b G m → Walk f R G m H n → Walks f R F b H n
  walks_then R F b G m H n a w = (a.0, a.1, a.2, a.3, a.4, walk_then f R a.1 a.2 G m H n a.5 w)

  walks_walk : (R F : List ℕ) (b : ℕ) (H : List ℕ) (n : ℕ) → Walks f R F b H n → Walk f R F b H n
  walks_walk R F b H n a = go F b a.0 a.1 a.2 H n a.3 a.4 a.5

  -- the current place is left with a token: an exit of the block has one, or an exit inside the loop, taken out of it
  abbrev pub Settled : (ℕ → Exit → Type 0) → List ℕ → List ℕ → ℕ → Index → Type 0
  Settled S R K c j = ((K ≡ []) × (e : Exit) × (u : Val) × InChain (f.chain c) e × V (put (v.value c) (e.slots 0)) j u × S c e)
      ⊎ ((L : List ℕ) × (k : ℕ) × (H : List ℕ) × (n : ℕ) × (e : Exit) × (u : Val) × (K ≡ L ++ k ∷ []) × Walk f (k ∷ R) L c H n × InChain (f.chain n) e × V (token_out v f k (token_outs v f H (put (v.value n) (e.slots 0)))) j u × S n e)

  pub settle : (S : ℕ → Exit → Type 0) → OfGoing w x V f v rank mean eqs shape top below_top S → (M : ℕ) (R K : List ℕ) (c : ℕ) (j : Index) → f.around c ≡ K ++ R → ((k : ℕ) → rank c < rank k → EndsAt j (tree_of f v R (Node k) 0) (v.tree R (Node k) 0 K c)) → (ev : Evidence w x V f v rank mean eqs shape top below_top S R K c j) → rank ev.1 < M → Settled S R K c j
  settle S of zero R K c j a fol ev less = absurd (omega arith)
  settle S of (suc M) R K c j a fol ev less = at_leaf (λ ev l. settle S of M R K c j a fol ev l) ev.0 ev.1 ev.2 ev.3 ev.4 ev.5 ev.6 ev.7 less
    where
      -- the token at a node that the walk comes to
      later_node : ((ev : Evidence w x V f v rank mean eqs shape top below_top S R K c j) → rank ev.1 < M → Settled S R K c j) → (k : ℕ) (G : List ℕ) (y : Exp) (z : Val) → IsNode G k → Walks f R K c G k → rank k ≤ M → Given (tree_of f v R (Node k) 0) y → V y j z → Settled S R K c j
      later_node ih k G y z node walks less given val =
          let some = some_node w x V f v rank mean eqs shape top below_top R 0 K c G k walks node a in
          let o = fol k (walks_rank f rank shape R K c G k walks a) some.0 some.1 in
          let val' = (o.2 z).0 (subst (λ (y : Exp). V y j z) (given_is _ y o.0 given o.1) val) in
          let ev' = node_evidence w x V f v rank mean eqs shape top below_top S of R k K c j z a (tree_leaf w x V f v rank mean eqs shape top below_top R (Node k) 0 K c j z some.0 a some.1 val') in
          ih ev'.0 (let l = ev'.1 in omega arith)

      at_block : ((ev : Evidence w x V f v rank mean eqs shape top below_top S R K c j) → rank ev.1 < M → Settled S R K c j) → (n : ℕ) (e : Exit) (u : Val) → InChain (f.chain n) e → V (put (v.value n) (e.slots 0)) j u → S n e → rank n ≤ M → ((K ≡ []) × (c ≡ n)) ⊎ Walks f R K c [] n → Settled S R K c j
      at_block ih n e u ch val said less (inl z) = inl (z.0, e, u, subst (λ (n : ℕ). InChain (f.chain n) e) (sym z.1) ch, subst (λ (n : ℕ). V (put (v.value n) (e.slots 0)) j u) (sym z.1) val, subst (λ (n : ℕ). S n e) (sym z.1) said)
      at_block ih n e u ch val said less (inr walks) =
          let last = walks_end f rank shape R K c [] n walks a in
          let k = keeps_token w x V f v rank mean eqs shape top below_top n (v.value n) (e.slots 0) j u (shape.tokens n e ch) val in
          later_node ih n [] (v.value n 0) k.0 (inl refl) walks less
          (subst (λ (B : List ℕ). Given (tree_of f v B (Node n) 0) (v.value n 0)) (walk_around f rank shape R K c [] n (walks_walk R K c [] n walks) a) (eqs.blocks n 0 (last.1 refl) last.0)) k.1

      at_loop : ((ev : Evidence w x V f v rank mean eqs shape top below_top S R K c j) → rank ev.1 < M → Settled S R K c j) → (L : List ℕ) (k n : ℕ) (y : Exp) (u : Val) → V (token_outs v f (L ++ k ∷ []) y) j u → rank n ≤ M → Walks f R K c (k ∷ []) k → Walk f R (k ∷ []) k (L ++ k ∷ []) n → Settled S R K c j
      at_loop ih L k n y u val less walks walk =
          let ak = walk_around f rank shape R K c (k ∷ []) k (walks_walk R K c (k ∷ []) k walks) a in
          let t = token_out_says w x V f v rank mean eqs shape top below_top k R _ j u ak (subst (λ (y : Exp). V y j u) (token_outs_last w x V f v rank mean eqs shape L k y) val) in
          later_node ih k (k ∷ []) (v.entering k 0) t.0.0 (inr refl) walks (let l = walk_rank f rank shape R (k ∷ []) k (L ++ k ∷ []) n walk ak in omega arith)
          (eqs.entries k 0 R ak (walks_end f rank shape R K c (k ∷ []) k walks a).0) t.0.1

      inside : ((ev : Evidence w x V f v rank mean eqs shape top below_top S R K c j) → rank ev.1 < M → Settled S R K c j) → (L : List ℕ) (k n : ℕ) (e : Exit) (u : Val) → InChain (f.chain n) e → V (token_outs v f (L ++ k ∷ []) (put (v.value n) (e.slots 0))) j u → S n e → rank n ≤ M → (J : List ℕ) → K ≡ J ++ k ∷ []
          → ((I : List ℕ) × (L ++ k ∷ [] ≡ I ++ k ∷ []) × Walk f (k ∷ R) J c I n) ⊎ ((G : List ℕ) × (m : ℕ) × IsNode G m × Walks f R K c G m × Walk f R G m (L ++ k ∷ []) n) → Settled S R K c j
      inside ih L k n e u ch val said less J z (inl (I, q, walk)) =
          inr (J, k, I, n, e, u, z, walk, ch, subst (λ (y : Exp). V y j u) (token_outs_last w x V f v rank mean eqs shape I k (put (v.value n) (e.slots 0))) (subst (λ (H : List ℕ). V (token_outs v f H (put (v.value n) (e.slots 0))) j u) q val), said)
      inside ih L k n e u ch val said less J z (inr (G, m, node, walks, rest)) = again' (enters R G m (L ++ k ∷ []) n rest (walk_around f rank shape R K c G m (walks_walk R K c G m walks) a) k L refl)
        where
          again' : ((L : List ℕ) × (G ≡ L ++ k ∷ [])) ⊎ (Walks f R G m (k ∷ []) k × Walk f R (k ∷ []) k (L ++ k ∷ []) n) → Settled S R K c j
          again' (inl (I, q)) = ⊎_elim (λ y. absurd (no_snoc I k (sym y ∙ q)))
              (λ y. let same = (snoc_same [] I m k (sym y ∙ q)).1 in let there : G ≡ k ∷ [] = y ∙ ap (λ (m : ℕ). m ∷ []) same in
              at_loop ih L k n _ u val less (subst₂ (λ (G : List ℕ) (m : ℕ). Walks f R K c G m) there same walks) (subst₂ (λ (G : List ℕ) (m : ℕ). Walk f R G m (L ++ k ∷ []) n) there same rest)) node
          again' (inr (walks', rest')) = at_loop ih L k n _ u val less (walks_then R K c G m (k ∷ []) k walks (walks_walk R G m (k ∷ []) k walks')) rest'

      at_leaf : ((ev : Evidence w x V f v rank mean eqs shape top below_top S R K c j) → rank ev.1 < M → Settled S R K c j) → (H : List ℕ) (n : ℕ) (e : Exit) (u : Val) → Walk f R K c H n → InChain (f.chain n) e → V (leaf v f H n e 0) j u → S n e → rank n < suc M → Settled S R K c j
      at_leaf ih [] n e u walk ch val said less = at_block ih n e u ch val said (omega arith) (unwalk R K c [] n walk)
      at_leaf ih (l ∷ H) n e u walk ch val said less = snoc (snoc_of l H)
        where
          snoc : IsSnoc (l ∷ H) → Settled S R K c j
          snoc (L, k, z) = split (enters R K c (L ++ k ∷ []) n walk' a k L refl)
            where
              walk' : Walk f R K c (L ++ k ∷ []) n
              walk' = subst (λ (H : List ℕ). Walk f R K c H n) z walk

              val' : V (token_outs v f (L ++ k ∷ []) (put (v.value n) (e.slots 0))) j u
              val' = subst (λ (H : List ℕ). V (token_outs v f H (put (v.value n) (e.slots 0))) j u) z val

              split : ((L : List ℕ) × (K ≡ L ++ k ∷ [])) ⊎ (Walks f R K c (k ∷ []) k × Walk f R (k ∷ []) k (L ++ k ∷ []) n) → Settled S R K c j
              split (inl (J, q)) = inside ih L k n e u ch val' said (omega arith) J q (walk_split f rank shape R k K c (L ++ k ∷ []) n walk' J q (a ∙ ap (λ (K : List ℕ). K ++ R) q ∙ append_assoc J (k ∷ []) R))
              split (inr (walks, rest)) = at_loop ih L k n _ u val' (omega arith) walks rest

  -- a token at an exit in a loop: the header has one in that iteration
  pub token_first : (h : ℕ) (B : List ℕ) (j : Index) → f.around h ≡ h ∷ B → Evidence w x V f v rank mean eqs shape top below_top (Any w x V f v rank mean eqs shape top below_top) (h ∷ B) [] h j → (z : Val) × V (v.value h 0) j z
  token_first h B j ah ev = pick (settle (Any w x V f v rank mean eqs shape top below_top) (λ n e m d. tt) top (h ∷ B) [] h j ah (λ k l. Ends_refl w x V f v rank mean eqs shape j _) ev (below_top ev.1))
    where
      pick : Settled (Any w x V f v rank mean eqs shape top below_top) (h ∷ B) [] h j → (z : Val) × V (v.value h 0) j z
      pick (inl (z, e, u, c, val, said)) = keeps_token w x V f v rank mean eqs shape top below_top h (v.value h) (e.slots 0) j u (shape.tokens h e c) val
      pick (inr y) = absurd (no_snoc y.0 y.1 y.6)

  -- the pass of the loop h inside B
  abbrev pub PassIs : ℕ → List ℕ → Index → ℕ → Type 0
  PassIs h B j n = V (Over (op.Pass (length (h ∷ B))) (one (v.ending h))) j (vals.Count n)

  -- j is jQ with the last iteration of each of the loops F of the region inside Q
  abbrev pub Chained : List ℕ → List ℕ → Index → Index → Type 0
  Chained [] Q jQ j = jQ ≡ j
  Chained (h ∷ F) Q jQ j = (i : Index) × (n : ℕ) × Chained F Q jQ i × PassIs h (F ++ Q) i n × (j ≡ at_depth i (length (h ∷ (F ++ Q))) n)

  pub chain_agree : (F Q : List ℕ) (jQ j : Index) → Chained F Q jQ j → AgreesTo (length Q) jQ j
  chain_agree [] Q jQ j ch d l = ap (λ (j : Index). j d) ch
  chain_agree (h ∷ F) Q jQ j ch d l =
      chain_agree F Q jQ ch.0 ch.2 d l ∙ agrees_self w x V f v rank mean eqs shape (length (F ++ Q)) ch.1 ch.0 d (simp length-append (omega arith)) ∙ sym (ap (λ (j : Index). j d) ch.4)

  pub chain_outs : (b : ℕ) (P F Q : List ℕ) (jQ j : Index) → f.around b ≡ P ++ (F ++ Q) → Chained F Q jQ j → (a : Exp) (u : Val) → V a j u → V (outs v F a) jQ u
  chain_outs b P [] Q jQ j z ch a u h = subst (λ (j : Index). V a j u) (sym ch) h
  chain_outs b P (k ∷ F) Q jQ j z ch a u h =
      chain_outs b (P ++ k ∷ []) F Q jQ ch.0 (z ∙ sym (append_assoc P (k ∷ []) (F ++ Q))) ch.2 (v.out k a) u (out_one (eqs.outs_are k a (F ++ Q) (shape.headers b k P (F ++ Q) z).0))
    where
      there : V a (at_depth ch.0 (length (k ∷ (F ++ Q))) ch.1) u
      there = subst (λ (j : Index). V a j u) ch.4 h

      out_one : (FreeIn f v (length (k ∷ (F ++ Q))) a × (v.out k a ≡ Over (op.Eval (length (k ∷ (F ++ Q)))) (two a (Over (op.Pass (length (k ∷ (F ++ Q)))) (one (v.ending k))))))
          ⊎ ((FreeIn f v (length (k ∷ (F ++ Q))) a → ⊥) × (v.out k a ≡ a)) → V (v.out k a) ch.0 u
      out_one (inl z) = subst (λ (c : Exp). V c ch.0 u) (sym z.1) (mean.makes (op.Eval (length (k ∷ (F ++ Q)))) _ ch.0 u (ch.1, ch.3, there))
      out_one (inr z) = subst (λ (c : Exp). V c ch.0 u) (sym z.1) (mean.unfree (length (k ∷ (F ++ Q))) ch.1 a ch.0 u z.0 there)

  pub chain_snoc : (E : List ℕ) (h : ℕ) (A : List ℕ) (i j k : Index) (n : ℕ) → PassIs h A i n → j ≡ at_depth i (length (h ∷ A)) n → Chained E (h ∷ A) j k → Chained (E ++ h ∷ []) A i k
  chain_snoc [] h A i j k n p z ch = (i, n, refl, p, sym ch ∙ z)
  chain_snoc (l ∷ E) h A i j k n p z ch =
      let e = sym (append_assoc E (h ∷ []) A) in
      (ch.0, ch.1, chain_snoc E h A i j ch.0 n p z ch.2, subst (λ (B : List ℕ). PassIs l B ch.0 ch.1) e ch.3, subst (λ (B : List ℕ). k ≡ at_depth ch.0 (length (l ∷ B)) ch.1) e ch.4)

  -- the run has come to c, inside the loops P of the region inside A
  abbrev pub Placed : Index → List ℕ → List ℕ → ℕ → Type 0
  Placed i A P c = (f.around c ≡ P ++ A) × Follows w x V f v rank mean eqs shape i A P c × ((X : List ℕ) (l : ℕ) (B : List ℕ) → A ≡ X ++ l ∷ B → Follows w x V f v rank mean eqs shape i B (l ∷ []) l)

  -- .. seen from a region further out, where the loops between are in their last iteration
  pub far : (F R P : List ℕ) (c : ℕ) (i jR j : Index) → Placed i (F ++ R) P c → AgreesTo (length (F ++ R)) i j → Chained F R jR j → (t : Target) (s : ℕ) → Later rank t c → EndsAt jR (tree_of f v R t s) (v.tree R t s (P ++ F) c)
  far [] R P c i jR j placed g ch t s l =
      subst (λ (K : List ℕ). EndsAt jR (v.tree R t s K (first_of_region f R)) (v.tree R t s (P ++ []) c)) (append-nil (first_loops f R))
      (placed.1 R [] refl jR (faith_here w x V f v rank mean eqs shape R i jR (subst (λ (j : Index). AgreesTo (length R) i j) (sym ch) g)) t s l)
  far (h ∷ F) R P c i jR j placed g ch t s l =
      let hd = shape.headers c h P (F ++ R) placed.0 in
      let first = far F R (h ∷ []) h i jR ch.0 (hd.0, placed.2 [] h (F ++ R) refl, λ X k B z. placed.2 (h ∷ X) k B (ap (λ (K : List ℕ). h ∷ K) z))
      (λ d y. g d (omega arith) ∙ ap (λ (j : Index). j d) ch.4 ∙ sym (agrees_self w x V f v rank mean eqs shape (length (F ++ R)) ch.1 ch.0 d y)) ch.2 t s (Later_back rank t h c hd.1 l) in
      Ends_chain w x V f v rank mean eqs shape jR _ _ _ first (placed.1 R (h ∷ F) refl jR (λ a u p. chain_outs c P (h ∷ F) R jR j placed.0 ch a u (p j g)) t s l)

  -- what an exit seen from outside gives inside the loops, in their last iterations
  pub peel : (S : ℕ → Exit → Type 0) → OfGoing w x V f v rank mean eqs shape top below_top S → (E F Q P : List ℕ) (c : ℕ) (i jQ jF j : Index) → Placed i (E ++ (F ++ Q)) P c → AgreesTo (length (E ++ (F ++ Q))) i j → Chained E (F ++ Q) jF j → Chained F Q jQ jF
      → Evidence w x V f v rank mean eqs shape top below_top S Q ((P ++ E) ++ F) c jQ → Evidence w x V f v rank mean eqs shape top below_top S (F ++ Q) (P ++ E) c jF
  peel S of E [] Q P c i jQ jF j placed g che ch ev = subst₂ (λ (K : List ℕ) (j : Index). Evidence w x V f v rank mean eqs shape top below_top S Q K c j) (append-nil (P ++ E)) ch ev
  peel S of E (h ∷ F) Q P c i jQ jF j placed g che ch ev =
      inner (peel S of (E ++ h ∷ []) F Q P c i jQ ch.0 j placed' g' che' ch.2 (subst (λ (K : List ℕ). Evidence w x V f v rank mean eqs shape top below_top S Q K c jQ) (sym same) ev))
    where
      A' : (E ++ h ∷ []) ++ (F ++ Q) ≡ E ++ (h ∷ (F ++ Q))
      A' = append_assoc E (h ∷ []) (F ++ Q)

      same : (P ++ (E ++ h ∷ [])) ++ F ≡ (P ++ E) ++ (h ∷ F)
      same = ap (λ (K : List ℕ). K ++ F) (sym (append_assoc P E (h ∷ []))) ∙ append_assoc (P ++ E) (h ∷ []) F

      placed' : Placed i ((E ++ h ∷ []) ++ (F ++ Q)) P c
      placed' = subst (λ (A : List ℕ). Placed i A P c) (sym A') placed

      g' : AgreesTo (length ((E ++ h ∷ []) ++ (F ++ Q))) i j
      g' = subst (λ (A : List ℕ). AgreesTo (length A) i j) (sym A') g

      che' : Chained (E ++ h ∷ []) (F ++ Q) ch.0 j
      che' = chain_snoc E h (F ++ Q) ch.0 jF j ch.1 ch.3 ch.4 che

      ac : f.around c ≡ (P ++ (E ++ h ∷ [])) ++ (F ++ Q)
      ac = placed'.0 ∙ sym (append_assoc P (E ++ h ∷ []) (F ++ Q))

      inner : Evidence w x V f v rank mean eqs shape top below_top S (F ++ Q) (P ++ (E ++ h ∷ [])) c ch.0 → Evidence w x V f v rank mean eqs shape top below_top S (h ∷ (F ++ Q)) (P ++ E) c jF
      inner ev = pick (settle S of top (F ++ Q) (P ++ (E ++ h ∷ [])) c ch.0 ac (λ k l. far (E ++ h ∷ []) (F ++ Q) P c i ch.0 j placed' g' che' (Node k) 0 l) ev (below_top ev.1))
        where
          pick : Settled S (F ++ Q) (P ++ (E ++ h ∷ [])) c ch.0 → Evidence w x V f v rank mean eqs shape top below_top S (h ∷ (F ++ Q)) (P ++ E) c jF
          pick (inl y) = absurd (app_none P E h y.0)
          pick (inr (L, k, H, n, e, u, z, walk, inch, val, said)) =
              let s = snoc_same (P ++ E) L h k (append_assoc P E (h ∷ []) ∙ z) in
              let ah = (shape.headers c h (P ++ E) (F ++ Q) (placed.0 ∙ sym (append_assoc P E (h ∷ (F ++ Q))))).0 in
              let t = token_out_says w x V f v rank mean eqs shape top below_top h (F ++ Q) _ ch.0 u ah (subst (λ (k : ℕ). V (token_out v f k (token_outs v f H (put (v.value n) (e.slots 0)))) ch.0 u) (sym s.1) val) in
              let o = mean.once _ ch.0 (vals.Count t.1.0) (vals.Count ch.1) t.1.2 ch.3 in
              let same : t.1.0 ≡ ch.1 = cc in (
                H,
                n,
                e,
                t.1.1,
                subst₂ (λ (k : ℕ) (L : List ℕ). Walk f (k ∷ (F ++ Q)) L c H n) (sym s.1) (sym s.0) walk,
                inch,
                subst (λ (j : Index). V (token_outs v f H (put (v.value n) (e.slots 0))) j t.1.1) (ap (λ (n : ℕ). at_depth ch.0 (length (h ∷ (F ++ Q))) n) same ∙ sym ch.4) t.1.3,
                said,
              )
