-- Where a tree has a value: a leaf of it has that value; and which trees there are.
use Rattle.std.proofs.Common.{◌≡◌, ℕ, zero, suc, ◌+◌, ◌<◌, ◌≤◌, Bool, true, false, if◌then◌else◌, pos, List, [], ◌∷◌, ◌++◌, length, Option, Some, None, ◌⊎◌, inl, inr, refl, sym, ap, ◌∙◌, subst, arith}
use Rattle.pv_conversion.proofs.Words.{AllZip, World, Input, Val, Index, at_depth, Exp, Over, NoExp, one, two, three, Part, put, To, Exit, Chain, Leave, Test, InChain, Flow, TokenPart, kept, calls, Shape, Target, Node, Back, Finish, Returning, Leaving, Place, On, Again, Header, Gone, Ended, Seen, Joins, IsChain, Values, outs, token_out, leaf, AtPlace, IsExit, IsTree, never_exp, AreEquations, IsGoal, IsNode, Walk, Walks, go, on_rank, seen_once, seen_to, stop, walk_around, Meaning}
use Rattle.pv_value.specs.declared.outcome.Val.TheVariants as vals
use Rattle.pv_value.specs.declared.number.Num.TheVariants as num
use Rattle.pv_graph.specs.declared.node.Op.TheVariants as op
use Rattle.pv_denote.specs.Denote.{strict}
use Rattle.pv_equations.specs.Exp.{made}
use Rattle.pv_conversion.proofs.Follow.{some_inj, unit_value, node_leaf}

pub never_none : (w : World) (x : Input) (vs : List Val) (u : Val) → strict w x op.Never vs ≡ Some u → ⊥
unfolding strict
never_none w x [] u h = absurd (cc)
never_none w x (p ∷ vs) u h = absurd (cc)

pub const_is : (w : World) (x : Input) (n : ℕ) (vs : List Val) (u : Val) → strict w x (op.Int (pos n)) vs ≡ Some u → u ≡ vals.Num (num.Int (pos n))
unfolding strict
const_is w x n [] u h = cc
const_is w x n (p ∷ vs) u h = absurd (cc)

-- places where a tree for a target ends
abbrev pub Stops : Target → Place → Type 0
Stops (Node k) (On G m) = IsNode G m × (m ≡ k)
Stops Back Header = Unit {0}
Stops Leaving Header = Unit {0}
Stops Leaving Gone = Unit {0}
Stops Leaving (Ended k) = Unit {0}
Stops Finish (Ended k) = Unit {0}
Stops Returning (Ended k) = Unit {0}
Stops t p = ⊥

-- a list with one more at the end
abbrev pub IsSnoc : List ℕ → Type 0
IsSnoc H = (L : List ℕ) × (k : ℕ) × (H ≡ L ++ k ∷ [])

pub snoc_of : (l : ℕ) (H : List ℕ) → IsSnoc (l ∷ H)
snoc_of l [] = ([], l, refl)
snoc_of l (k ∷ H) = let r = snoc_of k H in (l ∷ r.0, r.1, ap (λ (K : List ℕ). l ∷ K) r.2)

pub no_snoc : (L : List ℕ) (k : ℕ) → [] ≡ L ++ k ∷ [] → ⊥
no_snoc [] k e = absurd (cc)
no_snoc (l ∷ L) k e = absurd (cc)

module _ (w : World) (x : Input) (V : Exp → Index → Val → Type 0) (f : Flow) (v : Values) (rank : ℕ → ℕ) (mean : Meaning w x V f v) (eqs : AreEquations f v) (shape : Shape f rank)
    (top : ℕ) (below_top : (b : ℕ) → rank b < top) where
  -- a leaf of the tree for the target, with a value
  abbrev pub Leafs : List ℕ → Target → ℕ → List ℕ → ℕ → Index → Val → Type 0
  Leafs R t s F b j u = (H : List ℕ) × (n : ℕ) × (e : Exit) × (p : Place) × (z : Exp) × Walk f R F b H n × InChain (f.chain n) e × Seen f R H e.dest p × Stops t p × AtPlace f v R t s H n e p (Some z) × V z j u

  chain_leaf : (X : Exit → Option Exp → Type 0) (c : Part → Exp) (j : Index) (u : Val) (ch : Chain) (r : Option Exp) (y : Exp) → IsChain X c ch r → r ≡ Some y → V y j u
      → (e : Exit) × (z : Exp) × InChain ch e × X e (Some z) × V z j u
  chain_leaf X c j u (Leave e) r y k q h = (e, y, refl, subst (X e) q k, h)
  chain_leaf X c j u (Test t d rest) r y k q h = sides k.0 k.1 k.2 k.4 (λ y q h. chain_leaf X c j u rest k.1 y k.3 q h)
    where
      sides : (a b : Option Exp) → X d a → Joins (c t) a b r → ((y : Exp) → b ≡ Some y → V y j u → (e : Exit) × (z : Exp) × InChain rest e × X e (Some z) × V z j u)
          → (e : Exit) × (z : Exp) × InChain (Test t d rest) e × X e (Some z) × V z j u
      sides None b xa n ih = let o = ih y (sym n ∙ q) h in (o.0, o.1, inr o.2, o.3, o.4)
      sides (Some a) None xa n ih = (d, a, inl refl, xa, let o : y ≡ a = cc in subst (λ (y : Exp). V y j u) o h)
      sides (Some a) (Some b) xa (inl n) ih = (d, a, inl refl, xa, let z = n.1 in let o : y ≡ a = cc in subst (λ (y : Exp). V y j u) o h)
      sides (Some a) (Some b) xa (inr n) ih =
          let z = n.1 in
          let o : y ≡ Over op.Phi (three (c t) a b) = cc in
          let m = mean.says op.Phi (three (c t) a b) j u (subst (λ (y : Exp). V y j u) o h) in
          pick m.0 m.2
        where
          pick : (t' : Bool) → V (if t' then a else b) j u → (e : Exit) × (z : Exp) × InChain (Test t d rest) e × X e (Some z) × V z j u
          pick true h = (d, a, inl refl, xa, h)
          pick false h = let o = ih b refl h in (o.0, o.1, inr o.2, o.3, o.4)

  -- what an exit gives ends there, or is the tree further on
  pub stops_or_on : (R : List ℕ) (t : Target) (s : ℕ) (F : List ℕ) (b : ℕ) (e : Exit) (p : Place) (z : Exp) → AtPlace f v R t s F b e p (Some z) → Stops t p ⊎ ((G : List ℕ) × (m : ℕ) × (p ≡ On G m) × (v.tree R t s G m ≡ Some z))
  stops_or_on R (Node k) s F b e (On G m) z (inl h) = inl (h.0, h.1)
  stops_or_on R (Node k) s F b e (On G m) z (inr h) = inr (G, m, refl, sym h.1)
  stops_or_on R Back s F b e (On G m) z h = inr (G, m, refl, sym h)
  stops_or_on R Finish s F b e (On G m) z h = inr (G, m, refl, sym h)
  stops_or_on R Returning s F b e (On G m) z h = inr (G, m, refl, sym h)
  stops_or_on R Leaving s F b e (On G m) z h = inr (G, m, refl, sym h)
  stops_or_on R Back s F b e Header z h = inl tt
  stops_or_on R Leaving s F b e Header z h = inl tt
  stops_or_on R Leaving s F b e Gone z h = inl tt
  stops_or_on R Leaving s F b e (Ended k) z h = inl tt
  stops_or_on R Finish s F b e (Ended k) z h = inl tt
  stops_or_on R Returning s F b e (Ended k) z h = inl tt
  stops_or_on [] t s F b e p z h = absurd (cc)
  stops_or_on (q ∷ R) t s F b e p z h = absurd (cc)

  leaf_of : (N : ℕ) (R : List ℕ) (t : Target) (s : ℕ) (F : List ℕ) (b : ℕ) (j : Index) (u : Val) (y : Exp) → top ≤ rank b + N → f.around b ≡ F ++ R → v.tree R t s F b ≡ Some y → V y j u → Leafs R t s F b j u
  leaf_of zero R t s F b j u y n a q h = absurd (let z = below_top b in omega arith)
  leaf_of (suc N) R t s F b j u y n a q h = either (eqs.trees R t s F b a) (λ G m z l a e h. leaf_of N R t s G m j u z l a e h)
    where
      either : IsTree f v R t s F b (v.tree R t s F b) → ((G : List ℕ) (m : ℕ) (z : Exp) → top ≤ rank m + N → f.around m ≡ G ++ R → v.tree R t s G m ≡ Some z → V z j u → Leafs R t s G m j u) → Leafs R t s F b j u
      either (inl z) ih =
          let m = mean.says op.Never NoExp j u (subst (λ (y : Exp). V y j u) (some_inj y never_exp (sym q ∙ z.2)) h) in
          absurd (never_none w x m.0 u m.2)
      either (inr z) ih = found (chain_leaf (IsExit f v R t s F b) (λ c. outs v F (put (v.value b) c)) j u (f.chain b) (v.tree R t s F b) y z.1 q h)
        where
          found : (e : Exit) × (z : Exp) × InChain (f.chain b) e × IsExit f v R t s F b e (Some z) × V z j u → Leafs R t s F b j u
          found (e, z, c, p, h) = next (stops_or_on R t s F b e p.0 z p.2)
            where
              next : Stops t p.0 ⊎ ((G : List ℕ) × (m : ℕ) × (p.0 ≡ On G m) × (v.tree R t s G m ≡ Some z)) → Leafs R t s F b j u
              next (inl q) = (F, b, e, p.0, z, stop F b, c, p.1, q, p.2, h)
              next (inr (G, m, q, y)) =
                  let s' = subst (λ (p : Place). Seen f R F e.dest p) q p.1 in
                  let r = ih G m z (let l = on_rank f rank shape R F b e G m a c s' in omega arith) (seen_to f R F e.dest G m s').1 y h in
                  (r.0, r.1, r.2, r.3, r.4, go F b e G m r.0 r.1 c s' r.5, r.6, r.7, r.8, r.9, r.10)

  pub tree_leaf : (R : List ℕ) (t : Target) (s : ℕ) (F : List ℕ) (b : ℕ) (j : Index) (u : Val) (y : Exp) → f.around b ≡ F ++ R → v.tree R t s F b ≡ Some y → V y j u → Leafs R t s F b j u
  tree_leaf R t s F b j u y a q h = leaf_of top R t s F b j u y (omega arith) a q h

  abbrev pub SomeAt : List ℕ → Target → ℕ → List ℕ → ℕ → Type 0
  SomeAt R t s F b = (z : Exp) × (v.tree R t s F b ≡ Some z)

  Joins_first : (c : Exp) (a b r : Option Exp) → (z : Exp) × (a ≡ Some z) → Joins c a b r → (z : Exp) × (r ≡ Some z)
  Joins_first c None b r z n = absurd (let o = z.1 in cc)
  Joins_first c (Some a) None r z n = (a, n)
  Joins_first c (Some a) (Some b) r z (inl n) = (a, n.1)
  Joins_first c (Some a) (Some b) r z (inr n) = (_, n.1)

  Joins_second : (c : Exp) (a b r : Option Exp) → (z : Exp) × (b ≡ Some z) → Joins c a b r → (z : Exp) × (r ≡ Some z)
  Joins_second c None b r z n = (z.0, n ∙ z.1)
  Joins_second c (Some a) None r z n = (a, n)
  Joins_second c (Some a) (Some b) r z (inl n) = (a, n.1)
  Joins_second c (Some a) (Some b) r z (inr n) = (_, n.1)

  -- where an exit gives something, so does the chain
  pub chain_some : (X : Exit → Option Exp → Type 0) (c : Part → Exp) (ch : Chain) (r : Option Exp) (e : Exit) → IsChain X c ch r → InChain ch e → ((q : Option Exp) → X e q → (z : Exp) × (q ≡ Some z)) → (z : Exp) × (r ≡ Some z)
  chain_some X c (Leave d) r e k h p = p r (subst (λ (d : Exit). X d r) h k)
  chain_some X c (Test t d rest) r e k (inl h) p = Joins_first (c t) k.0 k.1 r (p k.0 (subst (λ (d : Exit). X d k.0) h k.2)) k.4
  chain_some X c (Test t d rest) r e k (inr h) p = Joins_second (c t) k.0 k.1 r (chain_some X c rest k.1 e k.3 h p) k.4

  pub some_exit : (R : List ℕ) (t : Target) (s : ℕ) (F : List ℕ) (b : ℕ) (e : Exit) (p : Place) → f.around b ≡ F ++ R → InChain (f.chain b) e → Seen f R F e.dest p
      → ((r : Option Exp) → AtPlace f v R t s F b e p r → (z : Exp) × (r ≡ Some z)) → SomeAt R t s F b
  some_exit R t s F b e p a c h gives = pick (eqs.trees R t s F b a)
    where
      pick : IsTree f v R t s F b (v.tree R t s F b) → SomeAt R t s F b
      pick (inl z) = (never_exp, z.2)
      pick (inr z) = chain_some (IsExit f v R t s F b) (λ c. outs v F (put (v.value b) c)) (f.chain b) (v.tree R t s F b) e z.1 c
          (λ r o. gives r (subst (λ (p : Place). AtPlace f v R t s F b e p r) (seen_once f R F e.dest o.0 p o.1 h) o.2))

  some_on : (R : List ℕ) (t : Target) (s : ℕ) (F : List ℕ) (b : ℕ) (e : Exit) (G : List ℕ) (m : ℕ) → SomeAt R t s G m → (r : Option Exp) → AtPlace f v R t s F b e (On G m) r → (z : Exp) × (r ≡ Some z)
  some_on R (Node k) s F b e G m o r (inl h) = (_, h.2)
  some_on R (Node k) s F b e G m o r (inr h) = (o.0, h.1 ∙ o.1)
  some_on R Back s F b e G m o r h = (o.0, h ∙ o.1)
  some_on R Finish s F b e G m o r h = (o.0, h ∙ o.1)
  some_on R Returning s F b e G m o r h = (o.0, h ∙ o.1)
  some_on R Leaving s F b e G m o r h = (o.0, h ∙ o.1)

  -- where there is a tree at the end of a walk, there is one at its beginning
  pub some_walk : (R : List ℕ) (t : Target) (s : ℕ) (F : List ℕ) (b : ℕ) (H : List ℕ) (n : ℕ) → Walk f R F b H n → f.around b ≡ F ++ R → SomeAt R t s H n → SomeAt R t s F b
  some_walk R t s F b H n (stop K o) a z = z
  some_walk R t s F b H n (go K o e G m L q c h rest) a z =
      some_exit R t s K o e (On G m) a c h (some_on R t s K o e G m (some_walk R t s G m L q rest (seen_to f R K e.dest G m h).1 z))

  -- .. and a walk to a node gives one for that node
  pub some_node : (R : List ℕ) (s : ℕ) (F : List ℕ) (b : ℕ) (H : List ℕ) (n : ℕ) → Walks f R F b H n → IsNode H n → f.around b ≡ F ++ R → SomeAt R (Node n) s F b
  some_node R s F b H n (e, G, m, c, h, rest) node a = go' G m H n rest node F b e a c h
    where
      go' : (G : List ℕ) (m : ℕ) (H : List ℕ) (n : ℕ) → Walk f R G m H n → IsNode H n → (F : List ℕ) (b : ℕ) (e : Exit) → f.around b ≡ F ++ R → InChain (f.chain b) e → Seen f R F e.dest (On G m) → SomeAt R (Node n) s F b
      go' G m H n (stop K o) node F b e a c h = some_exit R (Node o) s F b e (On K o) a c h (λ r z. (_, node_leaf w x V f v rank mean eqs shape R s F b e K o r node z))
      go' G m H n (go K o d L q M p c' h' rest) node F b e a c h =
          some_exit R (Node p) s F b e (On K o) a c h (some_on R (Node p) s F b e K o (go' L q M p rest node K o d (seen_to f R F e.dest K o h).1 c' h'))

  -- what the token's values rest on
  both_first : (a b : Exp) (j : Index) (u : Val) → V (Over op.Both (two a b)) j u → ((z : Val) × V a j z) × ((z : Val) × V b j z)
  both_first a b j u h = let m = mean.says op.Both (two a b) j u h in pick m.0 m.1
    where
      pick : (vs : List Val) → AllZip (λ k u. V k j u) (a ∷ b ∷ []) vs → ((z : Val) × V a j z) × ((z : Val) × V b j z)
      pick (p ∷ q ∷ []) z = ((p, z.0), (q, z.1.0))
      pick _ z = absurd (assumption)

  pub made_two : (a t : Exp) (j : Index) (u : Val) → V (made op.Both (two a t)) j u → ((z : Val) × V a j z) × ((z : Val) × V t j z)
  unfolding made
  made_two (Over op.Unit NoExp) t j u h = ((vals.Unit, unit_value w x V f v rank mean eqs shape j), (u, h))
  made_two a t j u h = both_first a t j u h

  pub token_out_says : (c : ℕ) (B : List ℕ) (a : Exp) (j : Index) (u : Val) → f.around c ≡ c ∷ B → V (token_out v f c a) j u
      → ((z : Val) × V (v.entering c 0) j z) × ((n : ℕ) × (z : Val) × V (Over (op.Pass (length (c ∷ B))) (one (v.ending c))) j (vals.Count n) × V a (at_depth j (length (c ∷ B)) n) z)
  token_out_says c B a j u ac h =
      let h' = subst (λ (A : List ℕ). V (made op.Both (two (v.entering c 0) (Over (op.Eval (length A)) (two a (Over (op.Pass (length A)) (one (v.ending c))))))) j u) ac h in
      let m = made_two _ _ j u h' in
      let e = mean.says (op.Eval (length (c ∷ B))) _ j m.1.0 m.1.1 in
      (m.0, (e.0, m.1.0, e.1, e.2))

  pub keeps_token : (b : ℕ) (g : ℕ → Exp) (p : Part) (j : Index) (u : Val) → TokenPart p → V (put g p) j u → (z : Val) × V (g 0) j z
  keeps_token b g p j u kept h = (u, h)
  keeps_token b g p j u (calls s ps) h = (made_two _ _ j u h).0

  -- what is said of each exit of a block that goes to a block
  abbrev pub OfGoing : (ℕ → Exit → Type 0) → Type 0
  OfGoing P = (n : ℕ) (e : Exit) (m : ℕ) → e.dest ≡ To m → P n e

  -- an exit that a walk comes to, of which P is said, with a token taken out of the loops around it
  abbrev pub Evidence : (ℕ → Exit → Type 0) → List ℕ → List ℕ → ℕ → Index → Type 0
  Evidence P R K c j = (H : List ℕ) × (n : ℕ) × (e : Exit) × (u : Val) × Walk f R K c H n × InChain (f.chain n) e × V (leaf v f H n e 0) j u × P n e

  -- nothing is said of it
  abbrev pub Any : ℕ → Exit → Type 0
  Any n e = Unit {0}

  pub node_evidence : (P : ℕ → Exit → Type 0) → OfGoing P → (R : List ℕ) (k : ℕ) (K : List ℕ) (c : ℕ) (j : Index) (u : Val) → f.around c ≡ K ++ R → Leafs R (Node k) 0 K c j u → (o : Evidence P R K c j) × (rank o.1 < rank k)
  node_evidence P of R k K c j u a (H, n, e, On G m, z, walk, ch, seen, stops, at', val) = (
    (H, n, e, u, walk, ch, subst (λ (z : Exp). V z j u) (some_inj _ _ (node_leaf w x V f v rank mean eqs shape R 0 H n e G m (Some z) stops.0 (subst (λ (k : ℕ). AtPlace f v R (Node k) 0 H n e (On G m) (Some z)) (sym stops.1) at'))) val, of n e m (seen_to f R H e.dest G m seen).0),
    subst (λ (k : ℕ). rank n < rank k) stops.1 (on_rank f rank shape R H n e G m (walk_around f rank shape R K c H n walk a) ch seen),
  )
  node_evidence P of R k K c j u a (H, n, e, Again, z, walk, ch, seen, stops, at', val) = absurd stops
  node_evidence P of R k K c j u a (H, n, e, Header, z, walk, ch, seen, stops, at', val) = absurd stops
  node_evidence P of R k K c j u a (H, n, e, Gone, z, walk, ch, seen, stops, at', val) = absurd stops
  node_evidence P of R k K c j u a (H, n, e, Ended q, z, walk, ch, seen, stops, at', val) = absurd stops

  pub goal_leaf : (Q : List ℕ) (T : Target) → IsGoal Q T → (H : List ℕ) (n : ℕ) (e : Exit) (p : Place) (z : Exp) → Stops T p → AtPlace f v Q T 0 H n e p (Some z) → z ≡ leaf v f H n e 0
  goal_leaf [] Finish goal H n e (Ended k) z stops at' = some_inj _ _ at'
  goal_leaf (q ∷ B) Back goal H n e Header z stops at' = some_inj _ _ at'
  goal_leaf [] Finish goal H n e (On G m) z stops at' = absurd stops
  goal_leaf [] Finish goal H n e Again z stops at' = absurd stops
  goal_leaf [] Finish goal H n e Header z stops at' = absurd stops
  goal_leaf [] Finish goal H n e Gone z stops at' = absurd stops
  goal_leaf (q ∷ B) Back goal H n e (On G m) z stops at' = absurd stops
  goal_leaf (q ∷ B) Back goal H n e Again z stops at' = absurd stops
  goal_leaf (q ∷ B) Back goal H n e Gone z stops at' = absurd stops
  goal_leaf (q ∷ B) Back goal H n e (Ended k) z stops at' = absurd stops
  goal_leaf Q T goal H n e p z stops at' = absurd goal

  pub goal_evidence : (Q : List ℕ) (T : Target) → IsGoal Q T → (K : List ℕ) (c : ℕ) (j : Index) (u : Val) (y : Exp) → f.around c ≡ K ++ Q → v.tree Q T 0 K c ≡ Some y → V y j u → Evidence Any Q K c j
  goal_evidence Q T goal K c j u y a q h =
      let o = tree_leaf Q T 0 K c j u y a q h in
      (o.0, o.1, o.2, u, o.5, o.6, subst (λ (z : Exp). V z j u) (goal_leaf Q T goal o.0 o.1 o.2 o.3 o.4 o.8 o.9) o.10, tt)
