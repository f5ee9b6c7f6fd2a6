-- Walks of a region.
use Rattle.std.proofs.Common.{◌≡◌, ◌≢◌, ℕ, suc, ◌+◌, ◌<◌, ◌≤◌, List, [], ◌∷◌, ◌++◌, length, ◌⊎◌, inl, inr, ⊎_elim, refl, sym, ap, ◌∙◌, subst, subst₂, append_assoc, length-append, arith, le_refl}
use Rattle.pv_equations.proofs.Words.{Heads, Dest, To, End, Exit, InChain, Flow, LeadsBack, turns, passes, Shape, Target, Back, Finish, Place, On, Again, Header, Gone, Ended, Lands, Seen, Hits, Ahead, now, later}
use Rattle.pv_equations.proofs.Lands.{lands_on, lands_in, lands_header}
use Rattle.pv_equations.proofs.Seen.{seen_to}
use Rattle.pv_equations.proofs.Moves.{snoc_split, About, Goes, other_loop, move, about}

-- blocks that the region's walk goes through, from b inside the loops F
pub data Walk (f : Flow) (R : List ℕ) : List ℕ → ℕ → List ℕ → ℕ → Type 0 where
  stop : (F : List ℕ) (b : ℕ) → Walk f R F b F b
  go : (F : List ℕ) (b : ℕ) (e : Exit) (G : List ℕ) (m : ℕ) (H : List ℕ) (n : ℕ) → InChain (f.chain b) e → Seen f R F e.dest (On G m) → Walk f R G m H n → Walk f R F b H n

pub walk_then : (f : Flow) (R F : List ℕ) (b : ℕ) (G : List ℕ) (m : ℕ) (H : List ℕ) (n : ℕ) → Walk f R F b G m → Walk f R G m H n → Walk f R F b H n
walk_then f R F b G m H n (stop K o) rest = rest
walk_then f R F b G m H n (go K o e L q M p c h w) rest = go K o e L q H n c h (walk_then f R L q M p H n w rest)

-- G, m is the place where a walk comes to the node m of the region
abbrev pub IsNode : List ℕ → ℕ → Type 0
IsNode G m = (G ≡ []) ⊎ (G ≡ m ∷ [])

-- places where a walk of a region ends, for whatever target
abbrev pub Boundary : Place → Type 0
Boundary Header = Unit {0}
Boundary Gone = Unit {0}
Boundary (Ended k) = Unit {0}
Boundary p = ⊥

abbrev pub Outside : Place → Type 0
Outside Gone = Unit {0}
Outside (Ended k) = Unit {0}
Outside p = ⊥

-- a walk out of the region, or back to its header
abbrev pub OutWalk : Flow → List ℕ → List ℕ → ℕ → Type 0
OutWalk f R F b = (H : List ℕ) × (n : ℕ) × (e : Exit) × (p : Place) × Walk f R F b H n × InChain (f.chain n) e × Seen f R H e.dest p × Boundary p

-- the two goals of a token: the header of a loop, or the end of the method
abbrev pub IsGoal : List ℕ → Target → Type 0
IsGoal [] Finish = Unit {0}
IsGoal (q ∷ B) Back = Unit {0}
IsGoal Q t = ⊥

-- where a loop is left, seen from the region around it
abbrev pub Further : Place → Type 0
Further (On G m) = IsNode G m
Further Again = ⊥
Further p = Unit {0}

-- a walk of one step or more
abbrev pub Walks : Flow → List ℕ → List ℕ → ℕ → List ℕ → ℕ → Type 0
Walks f R F b H n = (e : Exit) × (G : List ℕ) × (m : ℕ) × InChain (f.chain b) e × Seen f R F e.dest (On G m) × Walk f R G m H n

module _ (f : Flow) (rank : ℕ → ℕ) (shape : Shape f rank) where
  pub on_rank : (R F : List ℕ) (b : ℕ) (e : Exit) (G : List ℕ) (m : ℕ) → f.around b ≡ F ++ R → InChain (f.chain b) e → Seen f R F e.dest (On G m) → rank b < rank m
  on_rank R F b e G m a c h = let d = seen_to f R F e.dest G m h in (about f rank shape R F b m e (On G m) a c d.0 h).1

  pub walk_around : (R F : List ℕ) (b : ℕ) (H : List ℕ) (n : ℕ) → Walk f R F b H n → f.around b ≡ F ++ R → f.around n ≡ H ++ R
  walk_around R F b H n (stop K o) a = a
  walk_around R F b H n (go K o e L q M p c h w) a = walk_around R L q M p w (seen_to f R K e.dest L q h).1

  pub walk_rank : (R F : List ℕ) (b : ℕ) (H : List ℕ) (n : ℕ) → Walk f R F b H n → f.around b ≡ F ++ R → rank b ≤ rank n
  walk_rank R F b H n (stop K o) a = le_refl (rank o)
  walk_rank R F b H n (go K o e L q M p c h w) a = let l = on_rank R K o e L q a c h in let r = walk_rank R L q M p w (seen_to f R K e.dest L q h).1 in omega arith

  pub walks_rank : (R F : List ℕ) (b : ℕ) (H : List ℕ) (n : ℕ) → Walks f R F b H n → f.around b ≡ F ++ R → rank b < rank n
  walks_rank R F b H n w a = let l = on_rank R F b w.0 w.1 w.2 a w.3 w.4 in let r = walk_rank R w.1 w.2 H n w.5 (seen_to f R F w.0.dest w.1 w.2 w.4).1 in omega arith

  -- the end of a walk of one step or more
  pub walks_end : (R F : List ℕ) (b : ℕ) (H : List ℕ) (n : ℕ) → Walks f R F b H n → f.around b ≡ F ++ R → (n ≢ f.entry) × (H ≡ [] → Heads (f.around n) n → ⊥)
  walks_end R F b H n w a = last w.1 w.2 H n w.5 F b w.0 a w.3 w.4
    where
      last : (G : List ℕ) (m : ℕ) (H : List ℕ) (n : ℕ) → Walk f R G m H n → (F : List ℕ) (b : ℕ) (e : Exit) → f.around b ≡ F ++ R → InChain (f.chain b) e → Seen f R F e.dest (On G m) → (n ≢ f.entry) × (H ≡ [] → Heads (f.around n) n → ⊥)
      last G m H n (stop K o) F b e a c h =
          let d = seen_to f R F e.dest K o h in
          let i = about f rank shape R F b o e (On K o) a c d.0 h in
          (i.2, λ z. ⊎_elim (λ q. q.2) (λ q. absurd (let y = q.0 in cc)) i.6)
      last G m H n (go K o e' L q M p c' h' rest) F b e a c h = last L q M p rest K o e' (seen_to f R F e.dest K o h).1 c' h'

  out_step : (R F : List ℕ) (b : ℕ) (e : Exit) (G : List ℕ) (m : ℕ) → InChain (f.chain b) e → Seen f R F e.dest (On G m) → OutWalk f R G m → OutWalk f R F b
  out_step R F b e G m c h o = (o.0, o.1, o.2, o.3, go F b e G m o.0 o.1 c h o.4, o.5, o.6, o.7)

  pub out_walk : (R F : List ℕ) (b : ℕ) (G : List ℕ) (m : ℕ) → Walk f R F b G m → OutWalk f R G m → OutWalk f R F b
  out_walk R F b G m w o = (o.0, o.1, o.2, o.3, walk_then f R F b G m o.0 o.1 w o.4, o.5, o.6, o.7)

  -- .. or one from the header of a loop that is walked
  abbrev pub Outs : List ℕ → List ℕ → ℕ → Type 0
  Outs R F b = OutWalk f R F b ⊎ ((E : List ℕ) × (k : ℕ) × (G : List ℕ) × (F ≡ E ++ k ∷ G) × OutWalk f R (k ∷ G) k)

  -- a path to a goal of the region inside R, or of one around it, is a walk out of R
  pub path_out : (Q : List ℕ) (T : Target) → IsGoal Q T → (b : ℕ) → Ahead f Q T b → (X R F : List ℕ) → R ≡ X ++ Q → f.around b ≡ F ++ R → Outs R F b
  path_out Q T goal b (now o e c h) X R F r a = at' Q T goal r e.dest refl h
    where
      at' : (Q : List ℕ) (T : Target) → IsGoal Q T → R ≡ X ++ Q → (d : Dest) → e.dest ≡ d → Hits Q T d → Outs R F o
      at' Q T goal r (End k) d h = inl (F, o, e, Ended k, stop F o, c, subst (λ (d : Dest). Seen f R F d (Ended k)) (sym d) refl, tt)
      at' [] Finish goal r (To m) d h = absurd h
      at' (q ∷ B) Back goal r (To m) d h = seen (move f rank shape R F o m e a c d)
        where
          same : q ≡ m
          same = let z = h.1 in cc

          am : f.around m ≡ m ∷ B
          am =
              let z : f.around o ≡ (F ++ X) ++ m ∷ B = a ∙ ap (λ (K : List ℕ). F ++ K) (r ∙ ap (λ (q : ℕ). X ++ q ∷ B) same) ∙ sym (append_assoc F X (m ∷ B)) in
              (shape.headers o m (F ++ X) B z).0

          long : (Y : List ℕ) → f.around m ≢ m ∷ (Y ++ R)
          long Y z =
              let y : length (f.around m) ≡ suc (length B) = ap length am in
              let u : length (f.around m) ≡ suc (length Y + length R) = ap length z ∙ simp length-append in
              let t : length R ≡ length X + suc (length B) = ap length r ∙ simp length-append in
              absurd (omega arith)

          seen : Goes f rank R F o m → Outs R F o
          seen (On G k, s, i) = ⊎_elim (λ z. absurd (z.2 (B, am))) (λ z. absurd (long i.4 z.1)) i.6
          seen (Again, s, i) = absurd (long i.1 i.3)
          seen (Header, s, i) = inl (F, o, e, Header, stop F o, c, subst (λ (d : Dest). Seen f R F d Header) (sym d) s, tt)
          seen (Gone, s, i) = inl (F, o, e, Gone, stop F o, c, subst (λ (d : Dest). Seen f R F d Gone) (sym d) s, tt)
          seen (Ended k, s, i) = absurd i
      at' Q T goal r (To m) d h = absurd goal
  path_out Q T goal b (later o m e c d path) X R F r a = seen (λ G am. path_out Q T goal m path X R G r am) (move f rank shape R F o m e a c d)
    where
      here : (p : Place) → Seen f R F (To m) p → Seen f R F e.dest p
      here p s = subst (λ (d : Dest). Seen f R F d p) (sym d) s

      seen : ((G : List ℕ) → f.around m ≡ G ++ R → Outs R G m) → Goes f rank R F o m → Outs R F o
      seen ih (On G k, s, i) = next (ih G am)
        where
          am : f.around m ≡ G ++ R
          am = ⊎_elim (λ z. z.1 ∙ ap (λ (K : List ℕ). K ++ R) (sym z.0)) (λ z. z.1 ∙ ap (λ (K : List ℕ). K ++ R) (sym z.0)) i.6

          step : OutWalk f R G m → Outs R F o
          step w = inl (out_step R F o e G m c (here (On G m) (subst (λ (k : ℕ). Seen f R F (To m) (On G k)) i.0 s)) w)

          deep : (E : List ℕ) (k : ℕ) (K : List ℕ) → i.4 ≡ E ++ k ∷ K → OutWalk f R (k ∷ K) k → Outs R F o
          deep E k K z w = inr (i.3 ++ E, k, K, i.5 ∙ ap (λ (L : List ℕ). i.3 ++ L) z ∙ sym (append_assoc i.3 E (k ∷ K)), w)

          into : (E : List ℕ) (k : ℕ) (K : List ℕ) → m ∷ i.4 ≡ E ++ k ∷ K → G ≡ m ∷ i.4 → OutWalk f R (k ∷ K) k → Outs R F o
          into [] k K z g w = step (subst₂ (λ (L : List ℕ) (k : ℕ). OutWalk f R L k) (sym (g ∙ z)) (let y : m ≡ k = cc in sym y) w)
          into (l ∷ E) k K z g w = deep E k K (let y : i.4 ≡ E ++ k ∷ K = cc in y) w

          next : Outs R G m → Outs R F o
          next (inl w) = step w
          next (inr (E, k, K, z, w)) = ⊎_elim (λ y. deep E k K (sym y.0 ∙ z) w) (λ y. into E k K (sym y.0 ∙ z) y.0 w) i.6
      seen ih (Again, s, i) = next (ih (m ∷ i.1) i.3)
        where
          next : Outs R (m ∷ i.1) m → Outs R F o
          next (inl w) = inr (i.0, m, i.1, i.2, w)
          next (inr (E, k, K, z, w)) = inr (i.0 ++ E, k, K, i.2 ∙ ap (λ (L : List ℕ). i.0 ++ L) z ∙ sym (append_assoc i.0 E (k ∷ K)), w)
      seen ih (Header, s, i) = inl (F, o, e, Header, stop F o, c, here Header s, tt)
      seen ih (Gone, s, i) = inl (F, o, e, Gone, stop F o, c, here Gone s, tt)
      seen ih (Ended k, s, i) = absurd i

  -- a walk back to the header of the region
  abbrev pub BackWalk : List ℕ → List ℕ → ℕ → Type 0
  BackWalk R F b = (H : List ℕ) × (n : ℕ) × (e : Exit) × Walk f R F b H n × InChain (f.chain n) e × Seen f R H e.dest Header

  abbrev pub Backs : List ℕ → List ℕ → ℕ → Type 0
  Backs R F b = BackWalk R F b ⊎ ((E : List ℕ) × (k : ℕ) × (G : List ℕ) × (F ≡ E ++ k ∷ G) × BackWalk R (k ∷ G) k)

  back_out : (h : ℕ) (B : List ℕ) (b : ℕ) → LeadsBack f (h ∷ B) h b → (F : List ℕ) → f.around b ≡ F ++ h ∷ B → Backs (h ∷ B) F b
  back_out h B b (turns o e c d) F a =
      inl (F, o, e, stop F o, c, subst (λ (d : Dest). Seen f (h ∷ B) F d Header) (sym d) (lands_header F B (f.around h) h (shape.headers o h F B a).0))
  back_out h B b (passes o m e L c d inside way) F a = seen (λ G am. back_out h B m way G am) (move f rank shape (h ∷ B) F o m e a c d)
    where
      here : (p : Place) → Seen f (h ∷ B) F (To m) p → Seen f (h ∷ B) F e.dest p
      here p s = subst (λ (d : Dest). Seen f (h ∷ B) F d p) (sym d) s

      seen : ((G : List ℕ) → f.around m ≡ G ++ h ∷ B → Backs (h ∷ B) G m) → Goes f rank (h ∷ B) F o m → Backs (h ∷ B) F o
      seen ih (On G k, s, i) = next (ih G am)
        where
          am : f.around m ≡ G ++ h ∷ B
          am = ⊎_elim (λ z. z.1 ∙ ap (λ (K : List ℕ). K ++ h ∷ B) (sym z.0)) (λ z. z.1 ∙ ap (λ (K : List ℕ). K ++ h ∷ B) (sym z.0)) i.6

          step : BackWalk (h ∷ B) G m → Backs (h ∷ B) F o
          step w = inl (w.0, w.1, w.2, go F o e G m w.0 w.1 c (here (On G m) (subst (λ (k : ℕ). Seen f (h ∷ B) F (To m) (On G k)) i.0 s)) w.3, w.4, w.5)

          deep : (E : List ℕ) (k : ℕ) (K : List ℕ) → i.4 ≡ E ++ k ∷ K → BackWalk (h ∷ B) (k ∷ K) k → Backs (h ∷ B) F o
          deep E k K z w = inr (i.3 ++ E, k, K, i.5 ∙ ap (λ (L : List ℕ). i.3 ++ L) z ∙ sym (append_assoc i.3 E (k ∷ K)), w)

          into : (E : List ℕ) (k : ℕ) (K : List ℕ) → m ∷ i.4 ≡ E ++ k ∷ K → G ≡ m ∷ i.4 → BackWalk (h ∷ B) (k ∷ K) k → Backs (h ∷ B) F o
          into [] k K z g w = step (subst₂ (λ (L : List ℕ) (k : ℕ). BackWalk (h ∷ B) L k) (sym (g ∙ z)) (let y : m ≡ k = cc in sym y) w)
          into (l ∷ E) k K z g w = deep E k K (let y : i.4 ≡ E ++ k ∷ K = cc in y) w

          next : Backs (h ∷ B) G m → Backs (h ∷ B) F o
          next (inl w) = step w
          next (inr (E, k, K, z, w)) = ⊎_elim (λ y. deep E k K (sym y.0 ∙ z) w) (λ y. into E k K (sym y.0 ∙ z) y.0 w) i.6
      seen ih (Again, s, i) = next (ih (m ∷ i.1) i.3)
        where
          next : Backs (h ∷ B) (m ∷ i.1) m → Backs (h ∷ B) F o
          next (inl w) = inr (i.0, m, i.1, i.2, w)
          next (inr (E, k, K, z, w)) = inr (i.0 ++ E, k, K, i.2 ∙ ap (λ (L : List ℕ). i.0 ++ L) z ∙ sym (append_assoc i.0 E (k ∷ K)), w)
      seen ih (Header, s, i) = inl (F, o, e, stop F o, c, here Header s)
      seen ih (Gone, s, i) = absurd (i L inside)
      seen ih (Ended k, s, i) = absurd i

  -- from the header of each loop
  pub header_back : (h : ℕ) (B : List ℕ) → f.around h ≡ h ∷ B → BackWalk (h ∷ B) [] h
  header_back h B ah = pick (back_out h B h (shape.loops h B ah) [] ah)
    where
      pick : Backs (h ∷ B) [] h → BackWalk (h ∷ B) [] h
      pick (inl w) = w
      pick (inr (E, k, G, z, w)) = absurd (none E k G z)
        where
          none : (E : List ℕ) (k : ℕ) (G : List ℕ) → [] ≡ E ++ k ∷ G → ⊥
          none [] k G e = absurd (cc)
          none (l ∷ E) k G e = absurd (cc)

  -- .. from a node of the region
  pub node_out : (Q : List ℕ) (T : Target) → IsGoal Q T → (c : ℕ) → Ahead f Q T c → (X R P : List ℕ) → R ≡ X ++ Q → f.around c ≡ P ++ R → IsNode P c → OutWalk f R P c
  node_out Q T goal c path X R P r a node = pick (path_out Q T goal c path X R P r a)
    where
      none : (E : List ℕ) (k : ℕ) (G : List ℕ) → [] ≡ E ++ k ∷ G → ⊥
      none [] k G e = absurd (cc)
      none (l ∷ E) k G e = absurd (cc)

      one : (E : List ℕ) (k : ℕ) (G : List ℕ) → c ∷ [] ≡ E ++ k ∷ G → OutWalk f R (k ∷ G) k → P ≡ c ∷ [] → OutWalk f R P c
      one [] k G e w p = subst₂ (λ (L : List ℕ) (k : ℕ). OutWalk f R L k) (sym (p ∙ e)) (let y : c ≡ k = cc in sym y) w
      one (l ∷ E) k G e w p = absurd (none E k G (let y : [] ≡ E ++ k ∷ G = cc in y))

      pick : Outs R P c → OutWalk f R P c
      pick (inl w) = w
      pick (inr (E, k, G, z, w)) = ⊎_elim (λ p. absurd (none E k G (sym p ∙ z))) (λ p. one E k G (sym p ∙ z) w p) node

  -- a walk in the region around the loop c, from inside c: it stays in c, or comes to another node
  pub walk_split : (A : List ℕ) (c : ℕ) (K : List ℕ) (b : ℕ) (H : List ℕ) (n : ℕ) → Walk f A K b H n → (F : List ℕ) → K ≡ F ++ c ∷ [] → f.around b ≡ F ++ c ∷ A
      → ((L : List ℕ) × (H ≡ L ++ c ∷ []) × Walk f (c ∷ A) F b L n) ⊎ ((G : List ℕ) × (m : ℕ) × IsNode G m × Walks f A K b G m × Walk f A G m H n)
  walk_split A c K b H n (stop J o) F k a = inl (F, k, stop F o)
  walk_split A c K b H n (go J o e G m I p ch h rest) F k a = kind (λ L g am. walk_split A c G m I p rest L g am) (snoc_split F c i.3 i.4 (sym k ∙ i.5)) i.6
    where
      d : (e.dest ≡ To m) × (f.around m ≡ G ++ A)
      d = seen_to f A J e.dest G m h

      i : About f rank A J o m (On G m)
      i = about f rank shape A J o m e (On G m) (a ∙ sym (append_assoc F (c ∷ []) A) ∙ ap (λ (K : List ℕ). K ++ A) (sym k)) ch d.0 h

      stay : ((L : List ℕ) → G ≡ L ++ c ∷ [] → f.around m ≡ L ++ c ∷ A → ((K : List ℕ) × (I ≡ K ++ c ∷ []) × Walk f (c ∷ A) L m K p) ⊎ ((K : List ℕ) × (q : ℕ) × IsNode K q × Walks f A G m K q × Walk f A K q I p)) → (L : List ℕ) → G ≡ L ++ c ∷ [] → Seen f (c ∷ A) F e.dest (On L m)
          → ((L : List ℕ) × (I ≡ L ++ c ∷ []) × Walk f (c ∷ A) F o L p) ⊎ ((G : List ℕ) × (m : ℕ) × IsNode G m × Walks f A J o G m × Walk f A G m I p)
      stay ih L g s = ⊎_elim
          (λ z. inl (z.0, z.1, go F o e L m z.0 p ch s z.2))
          (λ z. inr (z.0, z.1, z.2, (e, G, m, ch, h, go G m z.3.0 z.3.1 z.3.2 z.0 z.1 z.3.3 z.3.4 z.3.5), z.4))
          (ih L g (d.1 ∙ ap (λ (K : List ℕ). K ++ A) g ∙ append_assoc L (c ∷ []) A))

      kind : ((L : List ℕ) → G ≡ L ++ c ∷ [] → f.around m ≡ L ++ c ∷ A → ((K : List ℕ) × (I ≡ K ++ c ∷ []) × Walk f (c ∷ A) L m K p) ⊎ ((K : List ℕ) × (q : ℕ) × IsNode K q × Walks f A G m K q × Walk f A K q I p)) → (i.4 ≡ []) ⊎ ((Y : List ℕ) × (i.4 ≡ Y ++ c ∷ []) × (F ≡ i.3 ++ Y)) → ((G ≡ i.4) × (f.around m ≡ i.4 ++ A) × (Heads (f.around m) m → ⊥)) ⊎ ((G ≡ m ∷ i.4) × (f.around m ≡ m ∷ (i.4 ++ A)))
          → ((L : List ℕ) × (I ≡ L ++ c ∷ []) × Walk f (c ∷ A) F o L p) ⊎ ((G : List ℕ) × (m : ℕ) × IsNode G m × Walks f A J o G m × Walk f A G m I p)
      kind ih (inl x) (inl y) = inr (G, m, inl (y.0 ∙ x), (e, G, m, ch, h, stop G m), rest)
      kind ih (inl x) (inr y) = inr (G, m, inr (y.0 ∙ ap (λ (K : List ℕ). m ∷ K) x), (e, G, m, ch, h, stop G m), rest)
      kind ih (inr (Y, x, z)) (inl y) = stay ih Y (y.0 ∙ x)
          (subst₂ (λ (F : List ℕ) (d : Dest). Seen f (c ∷ A) F d (On Y m)) (sym z) (sym d.0)
          (lands_on i.3 Y (c ∷ A) (f.around m) m (y.1 ∙ ap (λ (K : List ℕ). K ++ A) x ∙ append_assoc Y (c ∷ []) A) y.2))
      kind ih (inr (Y, x, z)) (inr y) = stay ih (m ∷ Y) (y.0 ∙ ap (λ (K : List ℕ). m ∷ K) x)
          (subst₂ (λ (F : List ℕ) (d : Dest). Seen f (c ∷ A) F d (On (m ∷ Y) m)) (sym z) (sym d.0)
          (lands_in i.3 Y (c ∷ A) (f.around m) m (y.1 ∙ ap (λ (K : List ℕ). m ∷ (K ++ A)) x ∙ ap (λ (K : List ℕ). m ∷ K) (append_assoc Y (c ∷ []) A))
          (other_loop f rank shape o m i.3 (Y ++ c ∷ A) (a ∙ ap (λ (K : List ℕ). K ++ c ∷ A) z ∙ append_assoc i.3 Y (c ∷ A)) i.1)))

  -- a walk in the loop c is one in the region around it
  pub walk_widen : (A : List ℕ) (c : ℕ) (F : List ℕ) (b : ℕ) (H : List ℕ) (n : ℕ) → Walk f (c ∷ A) F b H n → f.around b ≡ F ++ c ∷ A → Walk f A (F ++ c ∷ []) b (H ++ c ∷ []) n
  walk_widen A c F b H n (stop J o) a = stop (J ++ c ∷ []) o
  walk_widen A c F b H n (go J o e G m I p ch h rest) a = go (J ++ c ∷ []) o e (G ++ c ∷ []) m (I ++ c ∷ []) p ch (subst (λ (d : Dest). Seen f A (J ++ c ∷ []) d (On (G ++ c ∷ []) m)) (sym d.0) (kind i.6)) (walk_widen A c G m I p rest d.1)
    where
      d : (e.dest ≡ To m) × (f.around m ≡ G ++ c ∷ A)
      d = seen_to f (c ∷ A) J e.dest G m h

      i : About f rank (c ∷ A) J o m (On G m)
      i = about f rank shape (c ∷ A) J o m e (On G m) a ch d.0 h

      j : J ++ c ∷ [] ≡ i.3 ++ (i.4 ++ c ∷ [])
      j = ap (λ (K : List ℕ). K ++ c ∷ []) i.5 ∙ append_assoc i.3 i.4 (c ∷ [])

      kind : ((G ≡ i.4) × (f.around m ≡ i.4 ++ c ∷ A) × (Heads (f.around m) m → ⊥)) ⊎ ((G ≡ m ∷ i.4) × (f.around m ≡ m ∷ (i.4 ++ c ∷ A))) → Seen f A (J ++ c ∷ []) (To m) (On (G ++ c ∷ []) m)
      kind (inl y) =
          subst₂ (λ (K G : List ℕ). Lands A m (f.around m) K (On (G ++ c ∷ []) m)) (sym j) (sym y.0)
          (lands_on i.3 (i.4 ++ c ∷ []) A (f.around m) m (y.1 ∙ sym (append_assoc i.4 (c ∷ []) A)) y.2)
      kind (inr y) =
          subst₂ (λ (K G : List ℕ). Lands A m (f.around m) K (On (G ++ c ∷ []) m)) (sym j) (sym y.0)
          (lands_in i.3 (i.4 ++ c ∷ []) A (f.around m) m (y.1 ∙ ap (λ (K : List ℕ). m ∷ K) (sym (append_assoc i.4 (c ∷ []) A)))
          (other_loop f rank shape o m i.3 (i.4 ++ c ∷ A) (a ∙ ap (λ (K : List ℕ). K ++ c ∷ A) i.5 ∙ append_assoc i.3 i.4 (c ∷ A)) i.1))

  -- an exit that leaves the loop c, seen from the region around c
  pub exit_out : (A : List ℕ) (c : ℕ) (H : List ℕ) (n : ℕ) (e : Exit) (p : Place) → f.around n ≡ H ++ c ∷ A → InChain (f.chain n) e → Seen f (c ∷ A) H e.dest p → Outside p
      → (q : Place) × Seen f A (H ++ c ∷ []) e.dest q × Further q
  exit_out A c H n e p a ch h out = to e.dest refl
    where
      a' : f.around n ≡ (H ++ c ∷ []) ++ A
      a' = a ∙ sym (append_assoc H (c ∷ []) A)

      never' : (m : ℕ) (B : List ℕ) → e.dest ≡ To m → f.around m ≢ B ++ c ∷ A
      never' m B d z = gone p h out
        where
          gone : (p : Place) → Seen f (c ∷ A) H e.dest p → Outside p → ⊥
          gone Gone s o = about f rank shape (c ∷ A) H n m e Gone a ch d s B z
          gone (Ended k) s o = about f rank shape (c ∷ A) H n m e (Ended k) a ch d s
          gone (On G k) s o = o
          gone Again s o = o
          gone Header s o = o

      to : (d : Dest) → e.dest ≡ d → (q : Place) × Seen f A (H ++ c ∷ []) e.dest q × Further q
      to (End k) d = (Ended k, subst (λ (d : Dest). Seen f A (H ++ c ∷ []) d (Ended k)) (sym d) refl, tt)
      to (To m) d = seen (move f rank shape A (H ++ c ∷ []) n m e a' ch d)
        where
          back : (p : Place) → Seen f A (H ++ c ∷ []) (To m) p → Seen f A (H ++ c ∷ []) e.dest p
          back p s = subst (λ (d : Dest). Seen f A (H ++ c ∷ []) d p) (sym d) s

          seen : Goes f rank A (H ++ c ∷ []) n m → (q : Place) × Seen f A (H ++ c ∷ []) e.dest q × Further q
          seen (On G k, s, i) = kind (snoc_split H c i.3 i.4 i.5) i.6
            where
              kind : (i.4 ≡ []) ⊎ ((Y : List ℕ) × (i.4 ≡ Y ++ c ∷ []) × (H ≡ i.3 ++ Y)) → ((G ≡ i.4) × (f.around m ≡ i.4 ++ A) × (Heads (f.around m) m → ⊥)) ⊎ ((G ≡ m ∷ i.4) × (f.around m ≡ m ∷ (i.4 ++ A))) → (q : Place) × Seen f A (H ++ c ∷ []) e.dest q × Further q
              kind (inl x) (inl y) = (On G k, back (On G k) s, inl (y.0 ∙ x))
              kind (inl x) (inr y) = (On G k, back (On G k) s, inr (y.0 ∙ ap (λ (K : List ℕ). m ∷ K) x ∙ ap (λ (m : ℕ). m ∷ []) (sym i.0)))
              kind (inr (Y, x, z)) (inl y) = absurd (never' m Y d (y.1 ∙ ap (λ (K : List ℕ). K ++ A) x ∙ append_assoc Y (c ∷ []) A))
              kind (inr (Y, x, z)) (inr y) = absurd (never' m (m ∷ Y) d (y.1 ∙ ap (λ (K : List ℕ). m ∷ (K ++ A)) x ∙ ap (λ (K : List ℕ). m ∷ K) (append_assoc Y (c ∷ []) A)))
          seen (Again, s, i) = kind (snoc_split H c i.0 (m ∷ i.1) i.2)
            where
              kind : (m ∷ i.1 ≡ []) ⊎ ((Y : List ℕ) × (m ∷ i.1 ≡ Y ++ c ∷ []) × (H ≡ i.0 ++ Y)) → (q : Place) × Seen f A (H ++ c ∷ []) e.dest q × Further q
              kind (inl x) = absurd (cc)
              kind (inr (Y, x, z)) = absurd (never' m Y d (i.3 ∙ ap (λ (K : List ℕ). K ++ A) x ∙ append_assoc Y (c ∷ []) A))
          seen (Header, s, i) = (Header, back Header s, tt)
          seen (Gone, s, i) = (Gone, back Gone s, tt)
          seen (Ended k, s, i) = absurd i
