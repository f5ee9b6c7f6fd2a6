-- Values that meet the equations of trees, from trees that are given.
use Rattle.std.proofs.Common.{◌≡◌, ◌≢◌, ℕ, zero, suc, ◌+◌, ◌<◌, ◌≤◌, List, [], ◌∷◌, ◌++◌, length, Option, Some, None, ◌⊎◌, inl, inr, ⊎_elim, refl, ap, ◌∙◌, subst, arith}
use Rattle.pv_equations.proofs.Words.{Exp, Over, one, two, three, Heads, Part, put, Return, Throw, Exit, Chain, Leave, Test, InChain, InTests, NamesBelow, IsFinite, Flow, Shape, Target, Node, Back, Finish, Returning, Leaving, Place, On, Again, Header, Gone, Ended, Seen, Joins, IsChain, Values, outs, token_out, token_outs, leaf, AtPlace, IsExit, IsTree, OfToken, Ahead, first_kid, FreeIn, theta, name, entered, begun, kid, never_exp, true_exp, false_exp, AreTrees}
use Rattle.pv_graph.specs.declared.node.Op.TheVariants as op
use Rattle.pv_equations.proofs.Seen.{seen_to}
use Rattle.pv_equations.proofs.Moves.{place}
use Rattle.pv_equations.proofs.Walks.{IsNode, on_rank}
use Rattle.pv_equations.proofs.Same.{heads_dec}
use Rattle.pv_equations.proofs.Decide.{exp}
use Rattle.pv_equations.proofs.Reached.{ahead}
use Rattle.pv_equations.proofs.Within.{Within, made_within, put_within, free}
use Rattle.pv_equations.proofs.Bare.{dec, TreesWithin, Bounded, entering_by, again_by, bare, bare_first, bare_again, bare_entering, bare_ending, bare_value}

pub list_dec : (A B : List ℕ) → (A ≡ B) ⊎ (A ≢ B)
list_dec [] [] = inl refl
list_dec [] (b ∷ B) = inr (λ e. absurd (cc))
list_dec (a ∷ A) [] = inr (λ e. absurd (cc))
list_dec (a ∷ A) (b ∷ B) = ⊎_elim (λ x. ⊎_elim (λ y. inl (ap (λ (a : ℕ). a ∷ A) x ∙ ap (λ (A : List ℕ). b ∷ A) y)) (λ y. inr (λ e. y (let q : A ≡ B = cc in q))) (list_dec A B)) (λ x. inr (λ e. x (let q : a ≡ b = cc in q))) (dec a b)

pub node_dec : (G : List ℕ) (m k : ℕ) → (IsNode G m × (m ≡ k)) ⊎ ((m ≢ k) ⊎ ((G ≢ []) × (G ≢ m ∷ [])))
node_dec G m k = ⊎_elim
    (λ x. ⊎_elim (λ y. inl (inl y, x)) (λ y. ⊎_elim (λ z. inl (inr z, x)) (λ z. inr (inr (y, z))) (list_dec G (m ∷ []))) (list_dec G []))
    (λ x. inr (inl x)) (dec m k)

token_dec : (t : Target) (s : ℕ) → OfToken t s ⊎ (OfToken t s → ⊥)
token_dec Leaving s = inr (λ z. z)
token_dec (Node k) zero = inl tt
token_dec Back zero = inl tt
token_dec Finish zero = inl tt
token_dec Returning zero = inl tt
token_dec (Node k) (suc s) = inr (λ z. z)
token_dec Back (suc s) = inr (λ z. z)
token_dec Finish (suc s) = inr (λ z. z)
token_dec Returning (suc s) = inr (λ z. z)

-- where the names' equations are the same, so is what is free
pub free_same : (f : Flow) (v u : Values) → ((h s : ℕ) → first_kid v h s ≡ first_kid u h s) → ((h s : ℕ) → v.again h s ≡ u.again h s) → (d : ℕ) (e : Exp) → FreeIn f v d e → FreeIn f u d e
free_same f v u x y d e (theta c es z) = theta c es z
free_same f v u x y d e (name h s z) = name h s z
free_same f v u x y d e (entered h s l t) = entered h s l (subst (FreeIn f u d) (x h s) (free_same f v u x y d (first_kid v h s) t))
free_same f v u x y d e (begun h s l t) = begun h s l (subst (FreeIn f u d) (y h s) (free_same f v u x y d (v.again h s) t))
free_same f v u x y d e (kid o es k i t) = kid o es k i (free_same f v u x y d k t)

module _ (f : Flow) (rank : ℕ → ℕ) (shape : Shape f rank) (top : ℕ) (below_top : (b : ℕ) → rank b < top) (blocks slots : ℕ) (finite : IsFinite f blocks slots) where
  pub ahead_dec : (R : List ℕ) (t : Target) (b : ℕ) → Ahead f R t b ⊎ (Ahead f R t b → ⊥)
  ahead_dec R t b = ahead f R t blocks slots finite b

  pub exp_dec : (a b : Exp) → (a ≡ b) ⊎ (a ≢ b)
  exp_dec a b = exp a b

  pub free_dec : (p : Bounded f blocks slots) (h : ℕ) (x : Exp) → FreeIn f (bare f p.values) (length (f.around h)) x ⊎ (FreeIn f (bare f p.values) (length (f.around h)) x → ⊥)
  free_dec p h x = free f (bare f p.values) (length (f.around h)) blocks slots (bare_first f blocks slots p) (bare_again f blocks slots p) x

  abbrev join : Exp → Option Exp → Option Exp → Option Exp
  join c None b = b
  join c (Some a) None = Some a
  join c (Some a) (Some b) = ⊎_elim (λ z. Some a) (λ z. Some (Over op.Phi (three c a b))) (exp_dec a b)

  join_is : (c : Exp) (a b : Option Exp) → Joins c a b (join c a b)
  join_is c None b = refl
  join_is c (Some a) None = refl
  join_is c (Some a) (Some b) = go (exp_dec a b)
    where
      go : (d : (a ≡ b) ⊎ (a ≢ b)) → Joins c (Some a) (Some b) (⊎_elim (λ z. Some a) (λ z. Some (Over op.Phi (three c a b))) d)
      go (inl z) = inl (z, refl)
      go (inr z) = inr (z, refl)

  abbrev Taken : Values → ℕ → Exp → Exp
  Taken v h x = Over (op.Eval (length (f.around h))) (two x (Over (op.Pass (length (f.around h))) (one (v.ending h))))

  abbrev out_by : Bounded f blocks slots → (h : ℕ) → Exp → Heads (f.around h) h ⊎ (Heads (f.around h) h → ⊥) → Exp
  out_by p h x (inl z) = ⊎_elim (λ z. Taken (bare f p.values) h x) (λ z. x) (free_dec p h x)
  out_by p h x (inr z) = x

  abbrev based : Bounded f blocks slots → Values
  based p = record {
    value = (bare f p.values).value;
    tree = λ R t s F b. None;
    out = λ h x. out_by p h x (heads_dec (f.around h) h);
    ending = (bare f p.values).ending;
    entering = (bare f p.values).entering;
    again = (bare f p.values).again;
  }

  -- what an exit gives
  abbrev gives : Values → (List ℕ → ℕ → Option Exp) → List ℕ → Target → ℕ → List ℕ → ℕ → Exit → Place → Option Exp
  gives v rec R (Node k) s F b e (On G m) = ⊎_elim (λ z. Some (leaf v f F b e s)) (λ z. rec G m) (node_dec G m k)
  gives v rec R t s F b e (On G m) = rec G m
  gives v rec R t s F b e Again = None
  gives v rec R Back s F b e Header = Some (leaf v f F b e s)
  gives v rec R Leaving s F b e Header = Some false_exp
  gives v rec R t s F b e Header = None
  gives v rec R Leaving s F b e Gone = Some true_exp
  gives v rec R t s F b e Gone = None
  gives v rec R Leaving s F b e (Ended k) = Some true_exp
  gives v rec [] Finish s F b e (Ended k) = Some (leaf v f F b e s)
  gives v rec [] Returning s F b e (Ended Return) = Some (leaf v f F b e s)
  gives v rec R t s F b e (Ended k) = None

  abbrev fold : Values → (List ℕ → ℕ → Option Exp) → (R : List ℕ) → Target → ℕ → (F : List ℕ) (b : ℕ) → f.around b ≡ F ++ R → (ch : Chain) → ((e : Exit) → InChain ch e → InChain (f.chain b) e) → Option Exp
  fold v rec R t s F b a (Leave e) inc = gives v rec R t s F b e (place f rank shape R F b e a (inc e refl)).0
  fold v rec R t s F b a (Test c e rest) inc =
      join (outs v F (put (v.value b) c)) (gives v rec R t s F b e (place f rank shape R F b e a (inc e (inl refl))).0) (fold v rec R t s F b a rest (λ d i. inc d (inr i)))

  pub guard_dec : (R : List ℕ) (t : Target) (s b : ℕ) → (OfToken t s × (Ahead f R t b → ⊥)) ⊎ (OfToken t s → Ahead f R t b)
  guard_dec R t s b = ⊎_elim (λ x. inr (λ z. x)) (λ x. ⊎_elim (λ y. inl (y, x)) (λ y. inr (λ z. absurd (y z))) (token_dec t s)) (ahead_dec R t b)

  abbrev body : Values → (List ℕ → ℕ → Option Exp) → (R : List ℕ) → Target → ℕ → (F : List ℕ) (b : ℕ) → f.around b ≡ F ++ R → Option Exp
  body v rec R t s F b a = ⊎_elim (λ z. Some never_exp) (λ z. fold v rec R t s F b a (f.chain b) (λ e i. i)) (guard_dec R t s b)

  abbrev grow : Values → ℕ → List ℕ → Target → ℕ → List ℕ → ℕ → Option Exp
  grow v zero R t s F b = None
  grow v (suc N) R t s F b = ⊎_elim (λ a. body v (λ G m. grow v N R t s G m) R t s F b a) (λ z. None) (list_dec (f.around b) (F ++ R))

  abbrev pub built : Bounded f blocks slots → Values
  built p = record {
    value = (based p).value;
    tree = λ R t s F b. grow (based p) (suc top) R t s F b;
    out = (based p).out;
    ending = (based p).ending;
    entering = (based p).entering;
    again = (based p).again;
  }

  -- recursion to places of higher rank
  abbrev Alike : (List ℕ → ℕ → Option Exp) → (List ℕ → ℕ → Option Exp) → List ℕ → ℕ → Type 0
  Alike x y R b = (G : List ℕ) (m : ℕ) → rank b < rank m → f.around m ≡ G ++ R → x G m ≡ y G m

  gives_alike : (v : Values) (x y : List ℕ → ℕ → Option Exp) (R : List ℕ) (t : Target) (s : ℕ) (F : List ℕ) (b : ℕ) (e : Exit) (p : Place) → Alike x y R b → f.around b ≡ F ++ R → InChain (f.chain b) e → Seen f R F e.dest p → gives v x R t s F b e p ≡ gives v y R t s F b e p
  gives_alike v x y R (Node k) s F b e (On G m) h a c q = go (node_dec G m k)
    where
      go : (d : (IsNode G m × (m ≡ k)) ⊎ ((m ≢ k) ⊎ ((G ≢ []) × (G ≢ m ∷ [])))) → ⊎_elim (λ z. Some (leaf v f F b e s)) (λ z. x G m) d ≡ ⊎_elim (λ z. Some (leaf v f F b e s)) (λ z. y G m) d
      go (inl z) = refl
      go (inr z) = h G m (on_rank f rank shape R F b e G m a c q) (seen_to f R F e.dest G m q).1
  gives_alike v x y R Back s F b e (On G m) h a c q = h G m (on_rank f rank shape R F b e G m a c q) (seen_to f R F e.dest G m q).1
  gives_alike v x y R Finish s F b e (On G m) h a c q = h G m (on_rank f rank shape R F b e G m a c q) (seen_to f R F e.dest G m q).1
  gives_alike v x y R Returning s F b e (On G m) h a c q = h G m (on_rank f rank shape R F b e G m a c q) (seen_to f R F e.dest G m q).1
  gives_alike v x y R Leaving s F b e (On G m) h a c q = h G m (on_rank f rank shape R F b e G m a c q) (seen_to f R F e.dest G m q).1
  gives_alike v x y R (Node k) s F b e Again h a c q = refl
  gives_alike v x y R (Node k) s F b e Header h a c q = refl
  gives_alike v x y R (Node k) s F b e Gone h a c q = refl
  gives_alike v x y [] (Node k) s F b e (Ended o) h a c q = refl
  gives_alike v x y (r ∷ R) (Node k) s F b e (Ended o) h a c q = refl
  gives_alike v x y R Back s F b e Again h a c q = refl
  gives_alike v x y R Back s F b e Header h a c q = refl
  gives_alike v x y R Back s F b e Gone h a c q = refl
  gives_alike v x y [] Back s F b e (Ended o) h a c q = refl
  gives_alike v x y (r ∷ R) Back s F b e (Ended o) h a c q = refl
  gives_alike v x y R Finish s F b e Again h a c q = refl
  gives_alike v x y R Finish s F b e Header h a c q = refl
  gives_alike v x y R Finish s F b e Gone h a c q = refl
  gives_alike v x y [] Finish s F b e (Ended o) h a c q = refl
  gives_alike v x y (r ∷ R) Finish s F b e (Ended o) h a c q = refl
  gives_alike v x y R Returning s F b e Again h a c q = refl
  gives_alike v x y R Returning s F b e Header h a c q = refl
  gives_alike v x y R Returning s F b e Gone h a c q = refl
  gives_alike v x y [] Returning s F b e (Ended Return) h a c q = refl
  gives_alike v x y [] Returning s F b e (Ended Throw) h a c q = refl
  gives_alike v x y (r ∷ R) Returning s F b e (Ended o) h a c q = refl
  gives_alike v x y R Leaving s F b e Again h a c q = refl
  gives_alike v x y R Leaving s F b e Header h a c q = refl
  gives_alike v x y R Leaving s F b e Gone h a c q = refl
  gives_alike v x y R Leaving s F b e (Ended o) h a c q = refl

  fold_alike : (v : Values) (x y : List ℕ → ℕ → Option Exp) (R : List ℕ) (t : Target) (s : ℕ) (F : List ℕ) (b : ℕ) (a : f.around b ≡ F ++ R) → Alike x y R b → (ch : Chain) (inc : (e : Exit) → InChain ch e → InChain (f.chain b) e) → fold v x R t s F b a ch inc ≡ fold v y R t s F b a ch inc
  fold_alike v x y R t s F b a h (Leave e) inc = let o = place f rank shape R F b e a (inc e refl) in gives_alike v x y R t s F b e o.0 h a (inc e refl) o.1
  fold_alike v x y R t s F b a h (Test c e rest) inc =
      let o = place f rank shape R F b e a (inc e (inl refl)) in
      ap (λ (r : Option Exp). join (outs v F (put (v.value b) c)) r (fold v x R t s F b a rest (λ d i. inc d (inr i)))) (gives_alike v x y R t s F b e o.0 h a (inc e (inl refl)) o.1)
      ∙ ap (λ (r : Option Exp). join (outs v F (put (v.value b) c)) (gives v y R t s F b e o.0) r) (fold_alike v x y R t s F b a h rest (λ d i. inc d (inr i)))

  body_alike : (v : Values) (x y : List ℕ → ℕ → Option Exp) (R : List ℕ) (t : Target) (s : ℕ) (F : List ℕ) (b : ℕ) (a : f.around b ≡ F ++ R) → Alike x y R b → body v x R t s F b a ≡ body v y R t s F b a
  body_alike v x y R t s F b a h = go (guard_dec R t s b)
    where
      go : (d : (OfToken t s × (Ahead f R t b → ⊥)) ⊎ (OfToken t s → Ahead f R t b)) → ⊎_elim (λ z. Some never_exp) (λ z. fold v x R t s F b a (f.chain b) (λ e i. i)) d ≡ ⊎_elim (λ z. Some never_exp) (λ z. fold v y R t s F b a (f.chain b) (λ e i. i)) d
      go (inl z) = refl
      go (inr z) = fold_alike v x y R t s F b a h (f.chain b) (λ e i. i)

  grow_enough : (v : Values) (N : ℕ) (R : List ℕ) (t : Target) (s : ℕ) (F : List ℕ) (b : ℕ) → top ≤ rank b + N → grow v N R t s F b ≡ grow v (suc N) R t s F b
  grow_enough v zero R t s F b l = absurd (let z = below_top b in omega arith)
  grow_enough v (suc N) R t s F b l = go (list_dec (f.around b) (F ++ R)) (λ G m less am. grow_enough v N R t s G m (omega arith))
    where
      go : (d : (f.around b ≡ F ++ R) ⊎ (f.around b ≢ F ++ R)) → Alike (λ G m. grow v N R t s G m) (λ G m. grow v (suc N) R t s G m) R b
          → ⊎_elim (λ a. body v (λ G m. grow v N R t s G m) R t s F b a) (λ z. None) d ≡ ⊎_elim (λ a. body v (λ G m. grow v (suc N) R t s G m) R t s F b a) (λ z. None) d
      go (inl a) h = body_alike v (λ G m. grow v N R t s G m) (λ G m. grow v (suc N) R t s G m) R t s F b a h
      go (inr a) h = refl

  outs_built : (p : Bounded f blocks slots) (F : List ℕ) (x : Exp) → outs (based p) F x ≡ outs (built p) F x
  outs_built p [] x = refl
  outs_built p (h ∷ F) x = outs_built p F ((based p).out h x)

  tokens_built : (p : Bounded f blocks slots) (F : List ℕ) (x : Exp) → token_outs (based p) f F x ≡ token_outs (built p) f F x
  tokens_built p [] x = refl
  tokens_built p (h ∷ F) x = tokens_built p F (token_out (based p) f h x)

  leaf_built : (p : Bounded f blocks slots) (F : List ℕ) (b : ℕ) (e : Exit) (s : ℕ) → leaf (based p) f F b e s ≡ leaf (built p) f F b e s
  leaf_built p F b e zero = tokens_built p F _
  leaf_built p F b e (suc s) = outs_built p F _

  -- what an exit gives is right
  gives_is : (p : Bounded f blocks slots) (rec : List ℕ → ℕ → Option Exp) (R : List ℕ) (t : Target) (s : ℕ) (F : List ℕ) (b : ℕ) (e : Exit) (o : Place) → Alike rec (λ G m. (built p).tree R t s G m) R b → f.around b ≡ F ++ R → InChain (f.chain b) e → Seen f R F e.dest o
      → AtPlace f (built p) R t s F b e o (gives (based p) rec R t s F b e o)
  gives_is p rec R (Node k) s F b e (On G m) h a c q = go (node_dec G m k)
    where
      go : (d : (IsNode G m × (m ≡ k)) ⊎ ((m ≢ k) ⊎ ((G ≢ []) × (G ≢ m ∷ [])))) → AtPlace f (built p) R (Node k) s F b e (On G m) (⊎_elim (λ z. Some (leaf (based p) f F b e s)) (λ z. rec G m) d)
      go (inl z) = inl (z.0, z.1, ap Some (leaf_built p F b e s))
      go (inr z) = inr (z, h G m (on_rank f rank shape R F b e G m a c q) (seen_to f R F e.dest G m q).1)
  gives_is p rec R Back s F b e (On G m) h a c q = h G m (on_rank f rank shape R F b e G m a c q) (seen_to f R F e.dest G m q).1
  gives_is p rec R Finish s F b e (On G m) h a c q = h G m (on_rank f rank shape R F b e G m a c q) (seen_to f R F e.dest G m q).1
  gives_is p rec R Returning s F b e (On G m) h a c q = h G m (on_rank f rank shape R F b e G m a c q) (seen_to f R F e.dest G m q).1
  gives_is p rec R Leaving s F b e (On G m) h a c q = h G m (on_rank f rank shape R F b e G m a c q) (seen_to f R F e.dest G m q).1
  gives_is p rec R (Node k) s F b e Again h a c q = refl
  gives_is p rec R (Node k) s F b e Header h a c q = refl
  gives_is p rec R (Node k) s F b e Gone h a c q = refl
  gives_is p rec [] (Node k) s F b e (Ended o) h a c q = refl
  gives_is p rec (r ∷ R) (Node k) s F b e (Ended o) h a c q = refl
  gives_is p rec R Back s F b e Again h a c q = refl
  gives_is p rec R Back s F b e Header h a c q = ap Some (leaf_built p F b e s)
  gives_is p rec R Back s F b e Gone h a c q = refl
  gives_is p rec [] Back s F b e (Ended o) h a c q = refl
  gives_is p rec (r ∷ R) Back s F b e (Ended o) h a c q = refl
  gives_is p rec R Finish s F b e Again h a c q = refl
  gives_is p rec R Finish s F b e Header h a c q = refl
  gives_is p rec R Finish s F b e Gone h a c q = refl
  gives_is p rec [] Finish s F b e (Ended o) h a c q = ap Some (leaf_built p F b e s)
  gives_is p rec (r ∷ R) Finish s F b e (Ended o) h a c q = refl
  gives_is p rec R Returning s F b e Again h a c q = refl
  gives_is p rec R Returning s F b e Header h a c q = refl
  gives_is p rec R Returning s F b e Gone h a c q = refl
  gives_is p rec [] Returning s F b e (Ended Return) h a c q = ap Some (leaf_built p F b e s)
  gives_is p rec [] Returning s F b e (Ended Throw) h a c q = refl
  gives_is p rec (r ∷ R) Returning s F b e (Ended o) h a c q = refl
  gives_is p rec R Leaving s F b e Again h a c q = refl
  gives_is p rec R Leaving s F b e Header h a c q = refl
  gives_is p rec R Leaving s F b e Gone h a c q = refl
  gives_is p rec R Leaving s F b e (Ended o) h a c q = refl

  fold_is : (p : Bounded f blocks slots) (rec : List ℕ → ℕ → Option Exp) (R : List ℕ) (t : Target) (s : ℕ) (F : List ℕ) (b : ℕ) (a : f.around b ≡ F ++ R) → Alike rec (λ G m. (built p).tree R t s G m) R b → (ch : Chain) (inc : (e : Exit) → InChain ch e → InChain (f.chain b) e)
      → IsChain (IsExit f (built p) R t s F b) (λ c. outs (built p) F (put ((built p).value b) c)) ch (fold (based p) rec R t s F b a ch inc)
  fold_is p rec R t s F b a h (Leave e) inc = let o = place f rank shape R F b e a (inc e refl) in (o.0, o.1, gives_is p rec R t s F b e o.0 h a (inc e refl) o.1)
  fold_is p rec R t s F b a h (Test c e rest) inc =
      let o = place f rank shape R F b e a (inc e (inl refl)) in
      let x = gives (based p) rec R t s F b e o.0 in
      let y = fold (based p) rec R t s F b a rest (λ d i. inc d (inr i)) in (
        x,
        y,
        (o.0, o.1, gives_is p rec R t s F b e o.0 h a (inc e (inl refl)) o.1),
        fold_is p rec R t s F b a h rest (λ d i. inc d (inr i)),
        subst (λ (c : Exp). Joins c x y (join (outs (based p) F (put ((based p).value b) (c'))) x y)) (outs_built p F (put ((based p).value b) c')) (join_is (outs (based p) F (put ((based p).value b) c')) x y),
      )
    where
      c' : Part
      c' = c

  tree_is : (p : Bounded f blocks slots) (R : List ℕ) (t : Target) (s : ℕ) (F : List ℕ) (b : ℕ) → f.around b ≡ F ++ R → IsTree f (built p) R t s F b ((built p).tree R t s F b)
  tree_is p R t s F b a = go (list_dec (f.around b) (F ++ R))
    where
      alike : Alike (λ G m. grow (based p) top R t s G m) (λ G m. (built p).tree R t s G m) R b
      alike G m less am = grow_enough (based p) top R t s G m (omega arith)

      inner : (a : f.around b ≡ F ++ R) (d : (OfToken t s × (Ahead f R t b → ⊥)) ⊎ (OfToken t s → Ahead f R t b))
          → IsTree f (built p) R t s F b (⊎_elim (λ z. Some never_exp) (λ z. fold (based p) (λ G m. grow (based p) top R t s G m) R t s F b a (f.chain b) (λ e i. i)) d)
      inner a (inl z) = inl (z.0, z.1, refl)
      inner a (inr z) = inr (z, fold_is p (λ G m. grow (based p) top R t s G m) R t s F b a alike (f.chain b) (λ e i. i))

      go : (d : (f.around b ≡ F ++ R) ⊎ (f.around b ≢ F ++ R)) → IsTree f (built p) R t s F b (⊎_elim (λ a. body (based p) (λ G m. grow (based p) top R t s G m) R t s F b a) (λ z. None) d)
      go (inl a) = inner a (guard_dec R t s b)
      go (inr n) = absurd (n a)

  -- the trees of what is built meet their equations
  pub built_trees : (p : Bounded f blocks slots) → AreTrees f (built p)
  built_trees p = record {
    trees = λ R t s F b a. tree_is p R t s F b a;
    no_loops = λ h s n. (none_entering h s n (heads_dec (f.around h) h) (dec h f.entry), none_again h s n (heads_dec (f.around h) h));
    outs_are = λ h x B ah. subst (λ (A : List ℕ). (FreeIn f (built p) (length A) x × ((built p).out h x ≡ Over (op.Eval (length A)) (two x (Over (op.Pass (length A)) (one ((built p).ending h))))))
        ⊎ ((FreeIn f (built p) (length A) x → ⊥) × ((built p).out h x ≡ x))) ah (headed h x (B, ah) (heads_dec (f.around h) h));
  }
    where
      none_entering : (h s : ℕ) → (Heads (f.around h) h → ⊥) → (z : Heads (f.around h) h ⊎ (Heads (f.around h) h → ⊥)) (e : (h ≡ f.entry) ⊎ (h ≢ f.entry)) → entering_by f p.values h s z e ≡ never_exp
      none_entering h s n (inl z) e = absurd (n z)
      none_entering h s n (inr z) e = refl

      none_again : (h s : ℕ) → (Heads (f.around h) h → ⊥) → (z : Heads (f.around h) h ⊎ (Heads (f.around h) h → ⊥)) → again_by f p.values h s z ≡ never_exp
      none_again h s n (inl z) = absurd (n z)
      none_again h s n (inr z) = refl

      first_same : (h s : ℕ) → first_kid (bare f p.values) h s ≡ first_kid (built p) h s
      first_same h zero = refl
      first_same h (suc s) = refl

      first_back : (h s : ℕ) → first_kid (built p) h s ≡ first_kid (bare f p.values) h s
      first_back h zero = refl
      first_back h (suc s) = refl

      outs : (h : ℕ) (x : Exp) (z : FreeIn f (bare f p.values) (length (f.around h)) x ⊎ (FreeIn f (bare f p.values) (length (f.around h)) x → ⊥))
          → (FreeIn f (built p) (length (f.around h)) x × (⊎_elim (λ z. Taken (bare f p.values) h x) (λ z. x) z ≡ Taken (built p) h x)) ⊎ ((FreeIn f (built p) (length (f.around h)) x → ⊥) × (⊎_elim (λ z. Taken (bare f p.values) h x) (λ z. x) z ≡ x))
      outs h x (inl z) = inl (free_same f (bare f p.values) (built p) first_same (λ h s. refl) (length (f.around h)) x z, refl)
      outs h x (inr z) = inr ((λ y. z (free_same f (built p) (bare f p.values) first_back (λ h s. refl) (length (f.around h)) x y)), refl)

      headed : (h : ℕ) (x : Exp) → Heads (f.around h) h → (z : Heads (f.around h) h ⊎ (Heads (f.around h) h → ⊥))
          → (FreeIn f (built p) (length (f.around h)) x × (out_by p h x z ≡ Taken (built p) h x)) ⊎ ((FreeIn f (built p) (length (f.around h)) x → ⊥) × (out_by p h x z ≡ x))
      headed h x hd (inl z) = outs h x (free_dec p h x)
      headed h x hd (inr z) = absurd (z hd)

  -- the names in what is built are of finitely many blocks and slots
  abbrev W : Exp → Type 0
  W x = Within blocks slots x

  abbrev WithinAll : Option Exp → Type 0
  WithinAll None = Unit {0}
  WithinAll (Some x) = W x

  out_within : (p : Bounded f blocks slots) (h : ℕ) (x : Exp) → W x → W ((based p).out h x)
  out_within p h x w = headed (heads_dec (f.around h) h)
    where
      taken : (z : FreeIn f (bare f p.values) (length (f.around h)) x ⊎ (FreeIn f (bare f p.values) (length (f.around h)) x → ⊥)) → W (⊎_elim (λ z. Taken (bare f p.values) h x) (λ z. x) z)
      taken (inl z) = (w, ((bare_ending f blocks slots p h, tt), tt))
      taken (inr z) = w

      headed : (z : Heads (f.around h) h ⊎ (Heads (f.around h) h → ⊥)) → W (out_by p h x z)
      headed (inl z) = taken (free_dec p h x)
      headed (inr z) = w

  outs_within : (p : Bounded f blocks slots) (F : List ℕ) (x : Exp) → W x → W (outs (based p) F x)
  outs_within p [] x w = w
  outs_within p (h ∷ F) x w = outs_within p F ((based p).out h x) (out_within p h x w)

  tokens_within : (p : Bounded f blocks slots) (F : List ℕ) (x : Exp) → W x → W (token_outs (based p) f F x)
  tokens_within p [] x w = w
  tokens_within p (h ∷ F) x w = tokens_within p F (token_out (based p) f h x) (made_within blocks slots op.Both _ (bare_entering f blocks slots p h 0, ((w, ((bare_ending f blocks slots p h, tt), tt)), tt)))

  part_within : (p : Bounded f blocks slots) (b : ℕ) (t : Part) → NamesBelow slots t → W (put ((based p).value b) t)
  part_within p b t l = put_within blocks slots ((based p).value b) (λ s m. bare_value f blocks slots finite p b s m) t l

  leaf_within : (p : Bounded f blocks slots) (F : List ℕ) (b : ℕ) (e : Exit) (s : ℕ) → InChain (f.chain b) e → W (leaf (based p) f F b e s)
  leaf_within p F b e zero i = tokens_within p F _ (part_within p b (e.slots 0) (finite.parts b 0 e i))
  leaf_within p F b e (suc s) i = outs_within p F _ (part_within p b (e.slots (suc s)) (finite.parts b (suc s) e i))

  gives_within : (p : Bounded f blocks slots) (rec : List ℕ → ℕ → Option Exp) → ((G : List ℕ) (m : ℕ) → WithinAll (rec G m)) → (R : List ℕ) (t : Target) (s : ℕ) (F : List ℕ) (b : ℕ) (e : Exit) (o : Place) → InChain (f.chain b) e → WithinAll (gives (based p) rec R t s F b e o)
  gives_within p rec h R (Node k) s F b e (On G m) c = go (node_dec G m k)
    where
      go : (d : (IsNode G m × (m ≡ k)) ⊎ ((m ≢ k) ⊎ ((G ≢ []) × (G ≢ m ∷ [])))) → WithinAll (⊎_elim (λ z. Some (leaf (based p) f F b e s)) (λ z. rec G m) d)
      go (inl z) = leaf_within p F b e s c
      go (inr z) = h G m
  gives_within p rec h R Back s F b e (On G m) c = h G m
  gives_within p rec h R Finish s F b e (On G m) c = h G m
  gives_within p rec h R Returning s F b e (On G m) c = h G m
  gives_within p rec h R Leaving s F b e (On G m) c = h G m
  gives_within p rec h R (Node k) s F b e Again c = tt
  gives_within p rec h R (Node k) s F b e Header c = tt
  gives_within p rec h R (Node k) s F b e Gone c = tt
  gives_within p rec h [] (Node k) s F b e (Ended o) c = tt
  gives_within p rec h (r ∷ R) (Node k) s F b e (Ended o) c = tt
  gives_within p rec h R Back s F b e Again c = tt
  gives_within p rec h R Back s F b e Header c = leaf_within p F b e s c
  gives_within p rec h R Back s F b e Gone c = tt
  gives_within p rec h [] Back s F b e (Ended o) c = tt
  gives_within p rec h (r ∷ R) Back s F b e (Ended o) c = tt
  gives_within p rec h R Finish s F b e Again c = tt
  gives_within p rec h R Finish s F b e Header c = tt
  gives_within p rec h R Finish s F b e Gone c = tt
  gives_within p rec h [] Finish s F b e (Ended o) c = leaf_within p F b e s c
  gives_within p rec h (r ∷ R) Finish s F b e (Ended o) c = tt
  gives_within p rec h R Returning s F b e Again c = tt
  gives_within p rec h R Returning s F b e Header c = tt
  gives_within p rec h R Returning s F b e Gone c = tt
  gives_within p rec h [] Returning s F b e (Ended Return) c = leaf_within p F b e s c
  gives_within p rec h [] Returning s F b e (Ended Throw) c = tt
  gives_within p rec h (r ∷ R) Returning s F b e (Ended o) c = tt
  gives_within p rec h R Leaving s F b e Again c = tt
  gives_within p rec h R Leaving s F b e Header c = tt
  gives_within p rec h R Leaving s F b e Gone c = tt
  gives_within p rec h R Leaving s F b e (Ended o) c = tt

  join_within : (c : Exp) (a b : Option Exp) → W c → WithinAll a → WithinAll b → WithinAll (join c a b)
  join_within c None b w x y = y
  join_within c (Some a) None w x y = x
  join_within c (Some a) (Some b) w x y = go (exp_dec a b)
    where
      go : (d : (a ≡ b) ⊎ (a ≢ b)) → WithinAll (⊎_elim (λ z. Some a) (λ z. Some (Over op.Phi (three c a b))) d)
      go (inl z) = x
      go (inr z) = (w, (x, (y, tt)))

  fold_within : (p : Bounded f blocks slots) (rec : List ℕ → ℕ → Option Exp) → ((G : List ℕ) (m : ℕ) → WithinAll (rec G m)) → (R : List ℕ) (t : Target) (s : ℕ) (F : List ℕ) (b : ℕ) (a : f.around b ≡ F ++ R) (ch : Chain) (inc : (e : Exit) → InChain ch e → InChain (f.chain b) e)
      → ((c : Part) → InTests ch c → NamesBelow slots c) → WithinAll (fold (based p) rec R t s F b a ch inc)
  fold_within p rec h R t s F b a (Leave e) inc tests = gives_within p rec h R t s F b e (place f rank shape R F b e a (inc e refl)).0 (inc e refl)
  fold_within p rec h R t s F b a (Test c e rest) inc tests =
      join_within _ _ _ (outs_within p F _ (part_within p b c (tests c (inl refl)))) (gives_within p rec h R t s F b e (place f rank shape R F b e a (inc e (inl refl))).0 (inc e (inl refl)))
      (fold_within p rec h R t s F b a rest (λ d i. inc d (inr i)) (λ c i. tests c (inr i)))

  grow_within : (p : Bounded f blocks slots) (N : ℕ) (R : List ℕ) (t : Target) (s : ℕ) (F : List ℕ) (b : ℕ) → WithinAll (grow (based p) N R t s F b)
  grow_within p zero R t s F b = tt
  grow_within p (suc N) R t s F b = go (list_dec (f.around b) (F ++ R)) (λ G m. grow_within p N R t s G m)
    where
      inner : (a : f.around b ≡ F ++ R) (d : (OfToken t s × (Ahead f R t b → ⊥)) ⊎ (OfToken t s → Ahead f R t b)) → ((G : List ℕ) (m : ℕ) → WithinAll (grow (based p) N R t s G m))
          → WithinAll (⊎_elim (λ z. Some never_exp) (λ z. fold (based p) (λ G m. grow (based p) N R t s G m) R t s F b a (f.chain b) (λ e i. i)) d)
      inner a (inl z) h = tt
      inner a (inr z) h = fold_within p (λ G m. grow (based p) N R t s G m) h R t s F b a (f.chain b) (λ e i. i) (λ c i. finite.tests b c i)

      go : (d : (f.around b ≡ F ++ R) ⊎ (f.around b ≢ F ++ R)) → ((G : List ℕ) (m : ℕ) → WithinAll (grow (based p) N R t s G m)) → WithinAll (⊎_elim (λ a. body (based p) (λ G m. grow (based p) N R t s G m) R t s F b a) (λ z. None) d)
      go (inl a) h = inner a (guard_dec R t s b) h
      go (inr n) h = tt

  pub built_within : (p : Bounded f blocks slots) → TreesWithin blocks slots (built p)
  built_within p R t s F b y e = subst WithinAll e (grow_within p (suc top) R t s F b)

  -- .. so that it can be built again
  abbrev pub rebuilt : Bounded f blocks slots → Bounded f blocks slots
  rebuilt p = record { values = built p; within = built_within p }
