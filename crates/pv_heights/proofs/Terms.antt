-- The next height of the terms is a round on them, where each right side can be written.
use Rattle.std.proofs.Common.{◌≡◌, ℕ, List, [], ◌∷◌, map, Option, Some, None, ◌⊎◌, inl, inr, refl, sym, ap, ◌∙◌, subst}
use Rattle.pv_graph.specs.declared.node.Op.{Op}
use Rattle.pv_graph.specs.Forms.{Form, form}
use Rattle.pv_graph.specs.Walks.{In}
use Rattle.pv_pattern.specs.Patterns.{Pattern, Axiom}
use Rattle.pv_steps.specs.Facts.{View}
use Rattle.pv_heights.specs.Systems.{System, Hypothesis, Joined, given, same, flip, chain, kids, outer, assumed, induction, Relation, Subset}
use Rattle.pv_heights.specs.Filled.{Hole, Filled, at, of, Parts, no_part, part}
use Rattle.pv_heights.specs.Sides.{Match, thing_at, side, InClass, AllInClass, IsSide, AreSides, IsSideOf}
use Rattle.pv_heights.specs.Matches.{IsMatch}
use Rattle.pv_heights.specs.Terms.{Term, base, over, Terms, no_term, term, listed, TermHas, terms, IsWritten, written_terms, Below, itself}
use Rattle.pv_heights.specs.Heights.{Height, Corresponds, AnyTerm, IsRight, NextMember, NextGiven, IsBase}
use Rattle.pv_heights.specs.SameClasses.{IsNew, IsSystem, AreClosed, IsCongruence}
use Rattle.pv_heights.specs.Rounds.{IsPart, IsPartOf, Copy, ClassCopy, IsChoice, AreSidesOf, IsMadePart, IsRoundOn}
use Rattle.pv_heights.proofs.Sides.{side_over}
use Rattle.pv_heights.proofs.Height.{thing_under, over_self, over_map}

-- ---- terms are a system

abbrev form_or : Option (Form ℕ) → Form ℕ → Form ℕ
form_or None f = f
form_or (Some g) f = g

abbrev op_of : Form ℕ → Op
op_of (form o ks) = o

abbrev kids_of : Form ℕ → List ℕ
kids_of (form o ks) = ks

some_form : (f g : Form ℕ) → Some f ≡ Some g → f ≡ g
some_form f g e = ap (λ w. form_or w f) e

pub form_once : (f : Option (Form ℕ)) (o p : Op) (ks ls : List ℕ) → f ≡ Some (form o ks) → f ≡ Some (form p ls) → (o ≡ p) × (ks ≡ ls)
form_once f o p ks ls e d = let s = some_form (form o ks) (form p ls) (sym e ∙ d) in (ap op_of s, ap kids_of s)

term_once : (view : View) (x : Term) (o p : Op) (ks ls : List Term) → TermHas view x o ks → TermHas view x p ls → (o ≡ p) × (ks ≡ ls)
term_once view (base n) o p ks ls h k = let e = form_once (view n) o p h.0 k.0 h.1 k.1 in (e.0, h.2 ∙ (ap (map base) e.1 ∙ sym k.2))
term_once view (over q ts) o p ks ls h k = (sym h.0 ∙ k.0, h.1 ∙ sym k.1)

abbrev base_number : Term → ℕ
base_number (base n) = n
base_number (over o ts) = 0

abbrev IsBaseTerm : Term → Type 0
IsBaseTerm (base n) = Unit {0}
IsBaseTerm (over o ts) = ⊥

pub node_or_not : (view : View) (n : ℕ) → IsBase view n ⊎ (IsBase view n → ⊥)
node_or_not view n = go (view n) refl
  where
    none_some : (f : Form ℕ) → None ≡ Some f → ⊥
    none_some f e = cc

    go : (f : Option (Form ℕ)) → view n ≡ f → IsBase view n ⊎ (IsBase view n → ⊥)
    go None e = inr (λ b. none_some (form b.0 b.1) (sym e ∙ b.2))
    go (Some (form o ks)) e = inl (o, ks, e)

term_sorted : (view : View) (x : Term) → IsNew view (terms view) x ⊎ ((n : ℕ) × IsBase view n × (x ≡ base n))
term_sorted view (over o ts) = inl (λ n b e. subst IsBaseTerm (sym e) tt)
term_sorted view (base n) = go (node_or_not view n)
  where
    go : IsBase view n ⊎ (IsBase view n → ⊥) → IsNew view (terms view) (base n) ⊎ ((m : ℕ) × IsBase view m × (base n ≡ base m))
    go (inl b) = inr (n, b, refl)
    go (inr f) = inl (λ m b e. f (subst (IsBase view) (sym (ap base_number e)) b))

pub terms_system : (view : View) → IsSystem view (terms view)
terms_system view = record { once = term_once view; node_once = λ m n e. ap base_number e; has = λ n o ks e. (ks, e, refl); sorted = term_sorted view }

-- ---- what is joined is among the things

pub joined-in : (S : System) (C : Subset S) (O : List ℕ) (K : Relation S) → ((a b : S.Thing) → K a b → C a × C b)
    → (bs : List (Hypothesis S.Thing)) → ((b : Hypothesis S.Thing) → In bs b → (x y : S.Thing) → In b.pairs (x, y) → C x × C y) → (a b : S.Thing) → Joined S C O K bs a b → C a × C b
joined-in S C O K p bs q a b (given _ x y h) = p x y h
joined-in S C O K p bs q a b (same _ x h) = (h, h)
joined-in S C O K p bs q a b (flip _ x y h) = let r = joined-in S C O K p bs q y x h in (r.1, r.0)
joined-in S C O K p bs q a b (chain _ x y z h k) = ((joined-in S C O K p bs q x y h).0, (joined-in S C O K p bs q y z k).1)
joined-in S C O K p bs q a b (kids _ x y o ks ls c d h k m n r) = (c, d)
joined-in S C O K p bs q a b (outer e ds x y h) = joined-in S C O K p ds (λ b i. q b (inr i)) x y h
joined-in S C O K p bs q a b (assumed e ds x y h) = q e (inl refl) x y h
joined-in S C O K p bs q a b (induction e ds above theta first second x y m) = let t = theta x y m in (t.is_left, t.is_right)

-- ---- sides that can be written

abbrev mutual
  -- a thing stands at each place of the side
  pub HasPlaces : {A : Type 0} → Match A → Filled → Type 0
  HasPlaces {A} m (at x) = (u : A) × (thing_at m x ≡ Some u)
  HasPlaces m (of o ps) = HaveAllPlaces m ps

  pub HaveAllPlaces : {A : Type 0} → Match A → Parts → Type 0
  HaveAllPlaces m no_part = Unit {0}
  HaveAllPlaces m (part s ss) = HasPlaces m s × HaveAllPlaces m ss

module _ (S : System) (C : Subset S) (J : Relation S) (m : Match S.Thing) where
  mutual
    pub class_places : (s : Filled) (t : S.Thing) → InClass S C J m s t → HasPlaces m s
    class_places (at x) t h = (h.0, h.1)
    class_places (of o ps) t h = classes_places ps h.0 h.2

    pub classes_places : (ps : Parts) (ks : List S.Thing) → AllInClass S C J m ps ks → HaveAllPlaces m ps
    classes_places no_part ks h = tt
    classes_places (part s ss) [] h = absurd h
    classes_places (part s ss) (k ∷ ks) h = (class_places s k h.0, classes_places ss ks h.1)

  mutual
    pub side_places : (s : Filled) (t : S.Thing) → IsSide S C m s t → HasPlaces m s
    side_places (at x) t h = (t, h)
    side_places (of o ps) t h = sides_places ps h.0 h.3

    pub sides_places : (ps : Parts) (ks : List S.Thing) → AreSides S C m ps ks → HaveAllPlaces m ps
    sides_places no_part ks h = tt
    sides_places (part s ss) [] h = absurd h
    sides_places (part s ss) (k ∷ ks) h = (side_places s k h.0, sides_places ss ks h.1)

module _ {A B : Type 0} (R : A → B → Type 0) (m : Match A) (n : Match B) (o : Corresponds R m n) where
  mutual
    pub places_under : (s : Filled) → HasPlaces n s → HasPlaces m s
    places_under (at x) h = let u = thing_under R m n o x h.0 h.1 in (u.0, u.1)
    places_under (of p ps) h = all_places_under ps h

    pub all_places_under : (ps : Parts) → HaveAllPlaces n ps → HaveAllPlaces m ps
    all_places_under no_part h = tt
    all_places_under (part s ss) h = (places_under s h.0, all_places_under ss h.1)

module _ (m : Match Term) where
  mutual
    pub written : (s : Filled) → HasPlaces m s → (t : Term) × IsSide written_terms AnyTerm m s t
    written (at x) h = (h.0, h.1)
    written (of o ps) h = let r = all_written ps h in (over o r.0, (listed r.0, tt, (refl, refl), r.1))

    pub all_written : (ps : Parts) → HaveAllPlaces m ps → (ts : Terms) × AreSides written_terms AnyTerm m ps (listed ts)
    all_written no_part h = (no_term, tt)
    all_written (part s ss) h = let t = written s h.0 in let ts = all_written ss h.1 in (term t.0 ts.0, (t.1, ts.1))

-- what is written is had
module _ (view : View) (m : Match Term) where
  written_has : (t : Term) (o : Op) (ks : List Term) → IsWritten t o ks → TermHas view t o ks
  written_has (base n) o ks h = absurd h
  written_has (over p ts) o ks h = h

  mutual
    pub written_side : (s : Filled) (t : Term) → IsSide written_terms AnyTerm m s t → IsSide (terms view) AnyTerm m s t
    written_side (at x) t h = h
    written_side (of o ps) t h = (h.0, tt, written_has t o h.0 h.2, written_sides ps h.0 h.3)

    pub written_sides : (ps : Parts) (ks : List Term) → AreSides written_terms AnyTerm m ps ks → AreSides (terms view) AnyTerm m ps ks
    written_sides no_part [] h = h
    written_sides no_part (k ∷ ks) h = h
    written_sides (part s ss) [] h = h
    written_sides (part s ss) (k ∷ ks) h = (written_side s k h.0, written_sides ss ks h.1)

-- ---- what is below a side

module _ (view : View) where
  pub below_chain : (t u v : Term) → Below view u v → Below view t u → Below view t v
  below_chain t u v (itself _) b = b
  below_chain t u v (Below.kid _ _ k o ks h i c) b = Below.kid t v k o ks h i (below_chain t u k c b)

  below_split : (t u : Term) → Below view t u → (t ≡ u) ⊎ ((o : Op) × (ks : List Term) × (k : Term) × TermHas view u o ks × In ks k × Below view t k)
  below_split t u (itself _) = inl refl
  below_split t u (Below.kid _ _ k o ks h i b) = inr (o, ks, k, h, i, b)

  below_in : (C : Term → Type 0) → AreClosed (terms view) C → (t u : Term) → Below view t u → C u → C t
  below_in C closed t u (itself _) c = c
  below_in C closed t u (Below.kid _ _ k o ks h i b) c = below_in C closed t k b (closed u o ks k c h i)

  -- a side is one over other terms too, where all below it are among these
  module _ (CNext : Term → Type 0) (m : Match Term) where
    mutual
      pub side_in : (s : Filled) (t : Term) → IsSide (terms view) AnyTerm m s t → ((u : Term) → Below view u t → CNext u) → IsSide (terms view) CNext m s t
      side_in (at x) t h q = h
      side_in (of o ps) t h q = (h.0, q t (itself t), h.2, sides_in ps h.0 h.3 (λ u k i b. q u (Below.kid u t k o h.0 h.2 i b)))

      pub sides_in : (ps : Parts) (ks : List Term) → AreSides (terms view) AnyTerm m ps ks → ((u k : Term) → In ks k → Below view u k → CNext u) → AreSides (terms view) CNext m ps ks
      sides_in no_part [] h q = h
      sides_in no_part (k ∷ ks) h q = h
      sides_in (part s ss) [] h q = h
      sides_in (part s ss) (k ∷ ks) h q = (side_in s k h.0 (λ u b. q u k (inl refl) b), sides_in ss ks h.1 (λ u l i b. q u l (inr i) b))

  -- what is below a side over terms is one of these, or a part of the side
  module _ (C : Term → Type 0) (closed : AreClosed (terms view) C) (m : Match Term) (picked : (x : Hole) (u : Term) → thing_at m x ≡ Some u → C u) where
    abbrev pub Piece : Filled → Term → Type 0
    Piece s u = C u ⊎ ((q : Filled) × IsPart q s × IsSide (terms view) AnyTerm m q u)

    abbrev pub PieceOf : Parts → Term → Type 0
    PieceOf ps u = C u ⊎ ((q : Filled) × IsPartOf q ps × IsSide (terms view) AnyTerm m q u)

    wider : (o : Op) (ps : Parts) (u : Term) → PieceOf ps u → Piece (of o ps) u
    wider o ps u (inl c) = inl c
    wider o ps u (inr h) = inr (h.0, inr h.1, h.2)

    here : (s : Filled) (ss : Parts) (u : Term) → Piece s u → PieceOf (part s ss) u
    here s ss u (inl c) = inl c
    here s ss u (inr h) = inr (h.0, inl h.1, h.2)

    later : (s : Filled) (ss : Parts) (u : Term) → PieceOf ss u → PieceOf (part s ss) u
    later s ss u (inl c) = inl c
    later s ss u (inr h) = inr (h.0, inr h.1, h.2)

    split : (o : Op) (ps : Parts) (t u : Term) → (h : IsSide (terms view) AnyTerm m (of o ps) t) → ((k : Term) → In h.0 k → Below view u k → PieceOf ps u) → Below view u t → Piece (of o ps) u
    split o ps t u h r b = go (below_split u t b)
      where
        go : (u ≡ t) ⊎ ((p : Op) × (ks : List Term) × (k : Term) × TermHas view t p ks × In ks k × Below view u k) → Piece (of o ps) u
        go (inl e) = inr (of o ps, inl refl, subst (λ w. IsSide (terms view) AnyTerm m (of o ps) w) (sym e) h)
        go (inr k) = wider o ps u (r k.2 (subst (λ ks. In ks k.2) (term_once view t k.0 o k.1 h.0 k.3 h.2).1 k.4) k.5)

    split_list : (s : Filled) (ss : Parts) (k : Term) (ks : List Term) (u l : Term) → (Below view u k → Piece s u) → ((l : Term) → In ks l → Below view u l → PieceOf ss u) → In (k ∷ ks) l → Below view u l → PieceOf (part s ss) u
    split_list s ss k ks u l r q (inl e) b = here s ss u (r (subst (λ w. Below view u w) (sym e) b))
    split_list s ss k ks u l r q (inr i) b = later s ss u (q l i b)

    mutual
      pub below_piece : (s : Filled) (t : Term) → IsSide (terms view) AnyTerm m s t → (u : Term) → Below view u t → Piece s u
      below_piece (at x) t h u b = inl (below_in C closed u t b (picked x t h))
      below_piece (of o ps) t h u b = split o ps t u h (λ k i c. below_pieces ps h.0 h.3 u k i c) b

      pub below_pieces : (ps : Parts) (ks : List Term) → AreSides (terms view) AnyTerm m ps ks → (u k : Term) → In ks k → Below view u k → PieceOf ps u
      below_pieces no_part [] h u k i b = absurd i
      below_pieces no_part (l ∷ ks) h u k i b = absurd h
      below_pieces (part s ss) [] h u k i b = absurd h
      below_pieces (part s ss) (l ∷ ks) h u k i b = split_list s ss l ks u k (λ c. below_piece s l h.0 u c) (λ v j c. below_pieces ss ks h.1 u v j c) i b

-- ---- a height

-- what holds of the terms of a height
pub record IsHeight (view : View) (h : Height) : Type 0 where
  pub closed : AreClosed (terms view) h.Member
  pub nodes : (n : ℕ) → IsBase view n → h.Member (base n)
  pub congruence : IsCongruence view (terms view) h.Member h.Joins
  pub carried : (a b : Term) → h.Joins a b → h.Member a × h.Member b

module _ (view : View) (assumed : List ℕ) (table : List Axiom) (h : Height) (i : IsHeight view h) where
  abbrev CNext : Term → Type 0
  CNext = NextMember view assumed table h

  picked : (m n : Match Term) → Corresponds (λ x s. h.Member s × h.Joins x s) m n → (x : Hole) (u : Term) → thing_at n x ≡ Some u → h.Member u
  picked m n o x u e = (thing_under (λ x s. h.Member s × h.Joins x s) m n o x u e).2.0

  picked_choice : (m n : Match Term) → Corresponds (λ x s. h.Member s × h.Joins x s) m n → IsChoice (terms view) h.Member h.Joins CNext m n
  picked_choice m n o = over_map (λ x s. h.Member s × h.Joins x s) (ClassCopy (terms view) h.Member h.Joins CNext) (λ x s k. record { thing = s; is = k.0; joins = k.1; copy = Copy.itself s s k.0 refl }) m n o

  right_side : (m : Match Term) (u : Term) (r : IsRight view assumed table h m u) → IsSideOf (terms view) CNext r.chosen m.entry.right u
  right_side m u r = (r.is.0, r.is.1, side_in view CNext r.chosen r.is.0 u (written_side view r.chosen r.is.0 u r.is.2) (λ v b. inr (m, u, r, b)))

  -- the side of the choice is that of the match
  same_side : (m n : Match Term) → Corresponds (λ x s. h.Member s × h.Joins x s) m n → (p : Pattern) → side m p ≡ side n p
  same_side m n o p = side_over (λ x s. h.Member s × h.Joins x s) m n o p

  term_made : (a : Term) → CNext a → h.Member a ⊎ ((m : Match Term) × IsMatch view assumed table (terms view) h.Member h.Joins m × IsMadePart (terms view) h.Member h.Joins CNext m a) ⊎ ((u : Term) × Copy (terms view) h.Member h.Joins CNext a u)
  term_made a (inl c) = inl c
  term_made a (inr k) = go (below_piece view h.Member i.closed k.2.chosen (picked k.0 k.2.chosen k.2.is_chosen) k.2.is.0 k.1 (written_side view k.2.chosen k.2.is.0 k.1 k.2.is.2) a k.3)
    where
      go : Piece view h.Member i.closed k.2.chosen (picked k.0 k.2.chosen k.2.is_chosen) k.2.is.0 a → h.Member a ⊎ ((m : Match Term) × IsMatch view assumed table (terms view) h.Member h.Joins m × IsMadePart (terms view) h.Member h.Joins CNext m a) ⊎ ((u : Term) × Copy (terms view) h.Member h.Joins CNext a u)
      go (inl c) = inl c
      go (inr q) = inr (inl (
        k.0,
        k.2.is_match,
        record {
          chosen = k.2.chosen;
          is_chosen = picked_choice k.0 k.2.chosen k.2.is_chosen;
          whole = k.2.is.0;
          is_whole = inr (same_side k.0 k.2.chosen k.2.is_chosen k.0.entry.right ∙ k.2.is.1);
          inner = q.0;
          is_inner = q.1;
          is = side_in view CNext k.2.chosen q.0 a q.2 (λ v b. inr (k.0, k.1, k.2, below_chain view v a k.1 k.3 b));
        },
      ))

  pub terms_round : ((m : Match Term) → IsMatch view assumed table (terms view) h.Member h.Joins m → (t : Term) × IsSideOf written_terms AnyTerm m m.entry.right t)
      → IsRoundOn view assumed table (terms view) h.Member h.Joins CNext (NextGiven view assumed table h)
  terms_round rights = record {
    kept = λ a c. inl c;
    made = term_made;
    joined = λ a b j. inl j;
    full = λ m k.
        let r = rights m k in
        let pick : Corresponds (λ x s. h.Member s × h.Joins x s) m m = over_self h.Member (λ x s. h.Member s × h.Joins x s) (λ a c. (c, i.congruence.same a c)) m k.kids k.vars in
        let right : IsRight view assumed table h m r.0 = record { is_match = k; chosen = m; is_chosen = pick; is = r.1 } in
        (k.at_, r.0, record { chosen = m; is_chosen = picked_choice m m pick; left = inl (k.is, k.stands); right = inr (right_side m r.0 right) }, inr (m, k.is, k.stands, right));
    given = term_given;
  }
    where
      term_given : (a b : Term) → NextGiven view assumed table h a b → (h.Member a × h.Member b × h.Joins a b) ⊎ ((m : Match Term) × IsMatch view assumed table (terms view) h.Member h.Joins m × AreSidesOf (terms view) h.Member h.Joins CNext m a b)
      term_given a b (inl j) = let c = i.carried a b j in inl (c.0, c.1, j)
      term_given a b (inr k) = inr (k.0, k.3.is_match, record { chosen = k.3.chosen; is_chosen = picked_choice k.0 k.3.chosen k.3.is_chosen; left = inl (k.1, k.2); right = inr (right_side k.0 b k.3) })
