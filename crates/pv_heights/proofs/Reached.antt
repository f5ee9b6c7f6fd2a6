-- What a search has reached after k rounds is what is joined at height k.
use Rattle.std.proofs.Common.{◌≡◌, ℕ, zero, suc, List, [], ◌∷◌, map, Some, ◌⊎◌, ◌↔◌, inl, inr, refl, sym, ◌∙◌, subst}
use Rattle.pv_graph.specs.declared.node.Op.{Op}
use Rattle.pv_graph.specs.Forms.{form}
use Rattle.pv_graph.specs.Walks.{In}
use Rattle.pv_graph.specs.Graphs.{Graph, form_at, Extends}
use Rattle.pv_pattern.specs.Patterns.{Pattern, Axiom}
use Rattle.pv_steps.specs.Facts.{View}
use Rattle.pv_heights.specs.Systems.{System, Joined, given, Relation, Subset}
use Rattle.pv_heights.specs.Filled.{Filled}
use Rattle.pv_heights.specs.Sides.{Match, side, IsSideOf}
use Rattle.pv_heights.specs.Matches.{IsMatch, AtLeast, IsSaturated}
use Rattle.pv_heights.specs.Terms.{Term, base, TermHas, terms, written_terms, Below, itself}
use Rattle.pv_heights.specs.Heights.{Height, Corresponds, AnyTerm, NextMember, NextGiven, IsBase, FirstMember, Nothing, first_height, next_height, height}
use Rattle.pv_heights.specs.Searches.{IsWhole, nodes, IsNode, OneClass, Joining, AreJoined, Reached, begin, grow}
use Rattle.pv_heights.specs.SameClasses.{IsSystem, AreClosed, IsCongruence, StandsFor, node, made, Near, SameClasses}
use Rattle.pv_heights.specs.Rounds.{ClassCopy, ServesAsSide, AreSidesOf, IsRoundOn}
use Rattle.pv_heights.proofs.Zips.{zip_map}
use Rattle.pv_heights.proofs.Transfer.{close_congruence, transfer_all}
use Rattle.pv_heights.proofs.Both.{In-slice_get, classes_flip}
use Rattle.pv_heights.proofs.Sides.{side_over}
use Rattle.pv_heights.proofs.Matches.{match_there, count_there, saturated_there}
use Rattle.pv_heights.proofs.Round.{stand_more}
use Rattle.pv_heights.proofs.Height.{end_in, one_height, saturated_round}
use Rattle.pv_heights.proofs.Nest.{joined-more}
use Rattle.pv_heights.proofs.Induct.{close-close}
use Rattle.pv_heights.proofs.Terms.{terms_system, joined-in, below_chain, HasPlaces, class_places, side_places, places_under, written, IsHeight, terms_round}
use Rattle.pv_heights.proofs.Nodes.{Keeps, nodes_system, base_is_node, node_is_base, nodes_closed, extends_keeps}

-- ---- each height

In-map : (ns : List ℕ) (k : Term) → In (map base ns) k → (j : ℕ) × In ns j × (k ≡ base j)
In-map [] k i = absurd i
In-map (n ∷ ns) k (inl e) = (n, inl refl, sym e)
In-map (n ∷ ns) k (inr i) = let r = In-map ns k i in (r.0, inr r.1, r.2)

first_closed : (view : View) → IsWhole view → AreClosed (terms view) (FirstMember view)
first_closed view whole a o ks k c h i =
    let d : TermHas view (base c.0) o ks = subst (λ w. TermHas view w o ks) c.2 h in
    let r = In-map d.0 k (subst (λ v. In v k) d.2 i) in
    (r.0, whole c.0 r.0 o d.0 d.1 r.1, r.2)

first_is : (view : View) → IsWhole view → IsHeight view (first_height view)
first_is view whole = record {
  closed = first_closed view whole;
  nodes = λ n b. (n, b, refl);
  congruence = close_congruence view (terms view) (FirstMember view) Nothing (λ n b. (n, b, refl));
  carried = λ a b j. joined-in (terms view) (FirstMember view) [] Nothing (λ x y h. absurd h) [] (λ b i. absurd i) a b j;
}

module _ (view : View) (assumed : List ℕ) (table : List Axiom) (h : Height) (i : IsHeight view h) where
  next_closed : AreClosed (terms view) (NextMember view assumed table h)
  next_closed a o ks k (inl c) q m = inl (i.closed a o ks k c q m)
  next_closed a o ks k (inr c) q m = inr (c.0, c.1, c.2, below_chain view k a c.1 c.3 (Below.kid k a k o ks q m (itself k)))

  given_in : (a b : Term) → NextGiven view assumed table h a b → NextMember view assumed table h a × NextMember view assumed table h b
  given_in a b (inl j) = let c = i.carried a b j in (inl c.0, inl c.1)
  given_in a b (inr k) = (inl k.1, inr (k.0, b, k.3, itself b))

  next_is : IsHeight view (next_height view assumed table h)
  next_is = record {
    closed = next_closed;
    nodes = λ n b. inl (i.nodes n b);
    congruence = close_congruence view (terms view) (NextMember view assumed table h) (NextGiven view assumed table h) (λ n b. inl (i.nodes n b));
    carried = λ a b j. joined-in (terms view) (NextMember view assumed table h) [] (NextGiven view assumed table h) given_in [] (λ b k. absurd k) a b j;
  }

pub is_height : (view : View) → IsWhole view → (assumed : List ℕ) (table : List Axiom) (k : ℕ) → IsHeight view (height view assumed table k)
unfolding height
is_height view whole assumed table zero = first_is view whole
is_height view whole assumed table (suc k) = next_is view assumed table (height view assumed table k) (is_height view whole assumed table k)

-- ---- a relation that joins the same things

pub classes_same : (view : View) (S T : System) (C : Subset S) (D : Subset T) (J : Relation S) (E F : Relation T)
    → ((a b : T.Thing) → E a b → F a b) → ((a b : T.Thing) → F a b → E a b) → SameClasses view S T C D J E → SameClasses view S T C D J F
classes_same view S T C D J E F p q h = record {
  there = λ a c. let r = h.there a c in (r.0, stand_more view S T D E D F (λ a d. d) p a r.0 r.1);
  back = h.back;
  joins = λ a b y z j s t. p y z (h.joins a b y z j (stand_more view S T D F D E (λ a d. d) q a y s) (stand_more view S T D F D E (λ a d. d) q b z t));
  joins_back = λ y z a b e s t. h.joins_back y z a b (q y z e) s t;
}

congruence_same : (view : View) (S : System) (C : Subset S) (J F : Relation S) → ((a b : S.Thing) → J a b → F a b) → ((a b : S.Thing) → F a b → J a b) → IsCongruence view S C J → IsCongruence view S C F
congruence_same view S C J F p q c = record {
  nodes = c.nodes;
  same = λ a h. p a a (c.same a h);
  flip = λ a b h. p a b (c.flip a b (q b a h));
  chain = λ a b d h k. p a d (c.chain a b d (q a b h) (q b d k));
  kids = λ a b o ks ls d e h k z. p a b (c.kids a b o ks ls d e h k (zip_map F J q ks ls z));
}

-- ---- more nodes behind those that are looked at

module _ (view : View) (h i : Graph) (up : Keeps (form_at h.nodes) (form_at i.nodes)) where
  pub has_less : (n : ℕ) → IsNode h n → (o : Op) (ks : List ℕ) → (nodes i).Has n o ks → (nodes h).Has n o ks
  has_less n d o ks k =
      let b = node_is_base h n d in
      let e = up n b.0 b.1 b.2 in
      b.2 ∙ (sym e ∙ k)

  pub more_congruence : (J : ℕ → ℕ → Type 0) → IsCongruence view (nodes h) (IsNode h) J → IsCongruence view (nodes i) (IsNode h) J
  more_congruence J c = record {
    nodes = c.nodes;
    same = c.same;
    flip = c.flip;
    chain = c.chain;
    kids = λ a b o ks ls p q k l z. c.kids a b o ks ls p q (has_less a p o ks k) (has_less b q o ls l) z;
  }

  module _ (S : System) (C : Subset S) (J : Relation S) (E : ℕ → ℕ → Type 0) where
    to_more : (a : S.Thing) (y : ℕ) → StandsFor view S (nodes h) (IsNode h) E a y → StandsFor view S (nodes i) (IsNode h) E a y
    to_more a y (node n _ _ b p q) = node n a y b p q
    to_more a y (made _ _ o ks ls ws p q r s z l hs) = made a y o ks ls ws p q r (up y o ls s) z l (λ j k w x v. to_more k w (hs j k w x v))

    to_less : (a : S.Thing) (y : ℕ) → StandsFor view S (nodes i) (IsNode h) E a y → StandsFor view S (nodes h) (IsNode h) E a y
    to_less a y (node n _ _ b p q) = node n a y b p q
    to_less a y (made _ _ o ks ls ws p q r s z l hs) = made a y o ks ls ws p q r (has_less y r o ls s) z l (λ j k w x v. to_less k w (hs j k w x v))

    from_more : (y : ℕ) (a : S.Thing) → StandsFor view (nodes h) S C J y a → StandsFor view (nodes i) S C J y a
    from_more y a (node n _ _ b p q) = node n y a b p q
    from_more y a (made _ _ o ks ls ws p q r s z l hs) = made y a o ks ls ws p (up y o ks q) r s z l (λ j k w x v. from_more k w (hs j k w x v))

    from_less : AreClosed (nodes h) (IsNode h) → (y : ℕ) (a : S.Thing) → StandsFor view (nodes i) S C J y a → IsNode h y → StandsFor view (nodes h) S C J y a
    from_less w y a (node n _ _ b p q) d = node n y a b p q
    from_less w y a (made _ _ o ks ls ws p q r s z l hs) d =
        made y a o ks ls ws p (has_less y d o ks q) r s z l (λ j k m x v. from_less w k m (hs j k m x v) (w y o ks k d (has_less y d o ks q) (In-slice_get ks j k x)))

    classes_more : AreClosed (nodes h) (IsNode h) → ((a b : ℕ) → E a b → IsNode h a × IsNode h b) → SameClasses view S (nodes h) C (IsNode h) J E → SameClasses view S (nodes i) C (IsNode h) J E
    classes_more w c k = record {
      there = λ a d. let r = k.there a d in (r.0, to_more a r.0 r.1);
      back = λ y d. let r = k.back y d in (r.0, from_more y r.0 r.1);
      joins = λ a b y z j s t. k.joins a b y z j (to_less a y s) (to_less b z t);
      joins_back = λ y z a b j s t. let d = c y z j in k.joins_back y z a b j (from_less w y a s d.0) (from_less w z b t d.1);
    }

-- ---- a round on nodes shows that the right sides of the terms' matches can be written

module _ (view : View) (whole : IsWhole view) (T : System) (lT : IsSystem view T) (h : Height) (is : IsHeight view h) (D : Subset T) (E : Relation T) (cE : IsCongruence view T D E)
    (classes : SameClasses view (terms view) T h.Member D h.Joins E) (assumed : List ℕ) (table : List Axiom) (DNext : Subset T) (L : Relation T) (sT : IsRoundOn view assumed table T D E DNext L) where
  end_places : (n c : Match T.Thing) → Corresponds (ClassCopy T D E DNext) n c → (p : Pattern) (b : T.Thing) → ServesAsSide T D E DNext n c p b → (s : Filled) × (side n p ≡ Some s) × HasPlaces n s
  end_places n c o p b (inl k) = (k.1.0, k.1.1, class_places T D E n k.1.0 b k.1.2)
  end_places n c o p b (inr k) = (k.0, side_over (ClassCopy T D E DNext) n c o p ∙ k.1, places_under (ClassCopy T D E DNext) n c o k.0 (side_places T DNext E c k.0 b k.2))

  pub rights : (m : Match Term) → IsMatch view assumed table (terms view) h.Member h.Joins m → (t : Term) × IsSideOf written_terms AnyTerm m m.entry.right t
  rights m i =
      let n = match_there whole (terms_system view) lT is.closed is.congruence cE classes assumed table m i in
      let f = sT.full n.0 n.1 in
      let e = end_places n.0 f.2.chosen f.2.is_chosen n.0.entry.right f.1 f.2.right in
      let t = written m e.0 (places_under (Near view (terms view) T D E) m n.0 n.2 e.0 e.2) in
      (t.0, (e.0, subst (λ (a : Axiom). side m a.right ≡ Some e.0) (sym n.2.entry) (side_over (Near view (terms view) T D E) m n.0 n.2 n.0.entry.right ∙ e.1), t.1))

-- ---- a search

-- the classes are a congruence, and those of the terms of height k; they are closed under inductions
pub record IsExact (g : Graph) (assumed : List ℕ) (table : List Axiom) (k : ℕ) (h : Graph) (numbers : List ℕ) : Type 0 where
  pub whole : IsWhole (form_at h.nodes)
  pub keeps : Keeps (form_at g.nodes) (form_at h.nodes)
  pub carried : (a b : ℕ) → OneClass numbers a b → IsNode h a × IsNode h b
  pub congruence : IsCongruence (form_at g.nodes) (nodes h) (IsNode h) (OneClass numbers)
  pub classes : SameClasses (form_at g.nodes) (terms (form_at g.nodes)) (nodes h) (height (form_at g.nodes) assumed table k).Member (IsNode h) (height (form_at g.nodes) assumed table k).Joins (OneClass numbers)
  pub ended : (a b : ℕ) → Joined (nodes h) (IsNode h) [] (OneClass numbers) [] a b → OneClass numbers a b

first_classes : (view : View) → IsWhole view → (h : Graph) → Keeps view (form_at h.nodes) → Keeps (form_at h.nodes) view
    → SameClasses view (terms view) (nodes h) (FirstMember view) (IsNode h) (Joined (terms view) (FirstMember view) [] Nothing []) (Joined (nodes h) (IsNode h) [] Nothing [])
first_classes view whole h up down = record {
  there = there;
  back = back;
  joins = λ a b y z j s t. transfer_all view whole (terms view) (nodes h) (terms_system view) (nodes_system view h up) (FirstMember view) Nothing (IsNode h) Nothing (close_congruence view (nodes h) (IsNode h) Nothing in_h) there (λ a b k. absurd k) a b y z j s t;
  joins_back = λ y z a b j s t. transfer_all view whole (nodes h) (terms view) (nodes_system view h up) (terms_system view) (IsNode h) Nothing (FirstMember view) Nothing (close_congruence view (terms view) (FirstMember view) Nothing (λ n b. (n, b, refl))) back (λ a b k. absurd k) y z a b j s t;
}
  where
    in_h : (n : ℕ) → IsBase view n → IsNode h n
    in_h n b = base_is_node h n (b.0, b.1, up n b.0 b.1 b.2)

    there : (a : Term) → FirstMember view a → (y : ℕ) × StandsFor view (terms view) (nodes h) (IsNode h) (Joined (nodes h) (IsNode h) [] Nothing []) a y
    there a c = (c.0, node c.0 a c.0 c.1 c.2 refl)

    back : (y : ℕ) → IsNode h y → (a : Term) × StandsFor view (nodes h) (terms view) (FirstMember view) (Joined (terms view) (FirstMember view) [] Nothing []) y a
    back y d = let b = node_is_base h y d in (base y, node y y (base y) (b.0, b.1, down y b.0 b.1 b.2) refl refl)

module _ (g : Graph) (whole : IsWhole (form_at g.nodes)) (assumed : List ℕ) (table : List Axiom) where
  abbrev pub V : View
  V = form_at g.nodes

  begin_exact : (h : Graph) (numbers : List ℕ) → h.nodes ≡ g.nodes → AreJoined h Nothing numbers → IsExact g assumed table zero h numbers
  unfolding height
  begin_exact h numbers e j =
      let up : Keeps V (form_at h.nodes) = λ n o ks k. subst (λ ns. form_at ns n ≡ Some (form o ks)) (sym e) k in
      let down : Keeps (form_at h.nodes) V = λ n o ks k. subst (λ ns. form_at ns n ≡ Some (form o ks)) e k in
      let in_h : (n : ℕ) → IsBase V n → IsNode h n = λ n b. base_is_node h n (b.0, b.1, up n b.0 b.1 b.2) in
      record {
        whole = subst (λ ns. IsWhole (form_at ns)) (sym e) whole;
        keeps = up;
        carried = λ a b c. joined-in (nodes h) (IsNode h) [] Nothing (λ x y k. absurd k) [] (λ b i. absurd i) a b (j.sound a b c);
        congruence = congruence_same V (nodes h) (IsNode h) (Joined (nodes h) (IsNode h) [] Nothing []) (OneClass numbers) j.full j.sound (close_congruence V (nodes h) (IsNode h) Nothing in_h);
        classes = classes_same V (terms V) (nodes h) (FirstMember V) (IsNode h) _ (Joined (nodes h) (IsNode h) [] Nothing []) (OneClass numbers) j.full j.sound (first_classes V whole h up down);
        ended = λ a b c. j.full a b (close-close (nodes h) (IsNode h) [] (OneClass numbers) Nothing j.sound a b c);
      }

  grow_exact : (k : ℕ) (h i : Graph) (numbers after : List ℕ) (pairs : List (ℕ × ℕ)) → Extends h i → IsWhole (form_at i.nodes) → IsExact g assumed table k h numbers
      → IsRoundOn V assumed table (nodes i) (IsNode h) (OneClass numbers) (IsNode i) (Joining numbers pairs) → AreJoined i (Joining numbers pairs) after → IsExact g assumed table (suc k) i after
  unfolding height
  grow_exact k h i numbers after pairs e wi x s j =
      let up = extends_keeps h i e in
      let keeps : Keeps V (form_at i.nodes) = λ n o ks q. up n o ks (x.keeps n o ks q) in
      let t = is_height V whole assumed table k in
      let H = height V assumed table k in
      let T : System = nodes i in
      let lT = nodes_system V i keeps in
      let shut = nodes_closed h x.whole in
      let mid = classes_more V h i up (terms V) H.Member H.Joins (OneClass numbers) shut x.carried x.classes in
      let c = more_congruence V h i up (OneClass numbers) x.congruence in
      let in_i : (n : ℕ) → IsBase V n → IsNode i n = λ n b. base_is_node i n (b.0, b.1, keeps n b.0 b.1 b.2) in
      let right = rights V whole T lT H t (IsNode h) (OneClass numbers) c mid assumed table (IsNode i) (Joining numbers pairs) s in
      let out = one_height whole (terms_system V) lT t.closed (λ n o ks v d m w. shut n o ks v d (has_less V h i up n d o ks m) w) t.congruence c mid (terms_round V assumed table H t right) s in
      record {
        whole = wi;
        keeps = keeps;
        carried = λ a b m. joined-in T (IsNode i) [] (Joining numbers pairs) (given_in s) [] (λ b i. absurd i) a b (j.sound a b m);
        congruence = congruence_same V T (IsNode i) (Joined T (IsNode i) [] (Joining numbers pairs) []) (OneClass after) j.full j.sound (close_congruence V T (IsNode i) (Joining numbers pairs) in_i);
        classes = classes_same V (terms V) T (NextMember V assumed table H) (IsNode i) _ (Joined T (IsNode i) [] (Joining numbers pairs) []) (OneClass after) j.full j.sound out;
        ended = λ a b m. j.full a b (close-close T (IsNode i) [] (OneClass after) (Joining numbers pairs) j.sound a b m);
      }
    where
      given_in : IsRoundOn V assumed table (nodes i) (IsNode h) (OneClass numbers) (IsNode i) (Joining numbers pairs) → (a b : ℕ) → Joining numbers pairs a b → IsNode i a × IsNode i b
      given_in s a b q = go (s.given a b q)
        where
          go : (IsNode h a × IsNode h b × OneClass numbers a b) ⊎ ((m : Match ℕ) × IsMatch V assumed table (nodes i) (IsNode h) (OneClass numbers) m × AreSidesOf (nodes i) (IsNode h) (OneClass numbers) (IsNode i) m a b) → IsNode i a × IsNode i b
          go (inl c) = (s.kept a c.0, s.kept b c.1)
          go (inr c) = (end_in (nodes i) (IsNode h) (OneClass numbers) (IsNode i) s.kept c.0 c.2.chosen c.2.is_chosen c.0.entry.left a c.2.left, end_in (nodes i) (IsNode h) (OneClass numbers) (IsNode i) s.kept c.0 c.2.chosen c.2.is_chosen c.0.entry.right b c.2.right)

  pub reached_exact : (k : ℕ) (h : Graph) (numbers : List ℕ) → Reached g assumed table k h numbers → IsExact g assumed table k h numbers
  reached_exact k h numbers (begin _ _ e j) = begin_exact h numbers e j
  reached_exact k h numbers (grow l f _ before _ pairs e wi r s j) = grow_exact l f h before numbers pairs e wi (reached_exact l f before r) s j

module _ (g : Graph) (whole : IsWhole (form_at g.nodes)) (assumed : List ℕ) (table : List Axiom) (k : ℕ) (h : Graph) (numbers : List ℕ) (r : Reached g assumed table k h numbers) where
  -- two nodes of g are in one class exactly where they are joined at the height
  pub exact_joined : (a b : ℕ) → IsBase (form_at g.nodes) a → IsBase (form_at g.nodes) b → (height (form_at g.nodes) assumed table k).Joins (base a) (base b) ↔ OneClass numbers a b
  exact_joined a b p q =
      let x = reached_exact g whole assumed table k h numbers r in (
        (λ j. x.classes.joins (base a) (base b) a b j (node a (base a) a p refl refl) (node b (base b) b q refl refl)),
        (λ f. x.classes.joins_back a b (base a) (base b) f (node a a (base a) p refl refl) (node b b (base b) q refl refl)),
      )

  -- there are as many matches on classes of nodes as at the height
  pub exact_count : (n : ℕ) → AtLeast (form_at g.nodes) assumed table (terms (form_at g.nodes)) (height (form_at g.nodes) assumed table k).Member (height (form_at g.nodes) assumed table k).Joins n
      ↔ AtLeast (form_at g.nodes) assumed table (nodes h) (IsNode h) (OneClass numbers) n
  exact_count n =
      let V : View = form_at g.nodes in
      let x = reached_exact g whole assumed table k h numbers r in
      let t = is_height V whole assumed table k in
      let H = height V assumed table k in
      let lT = nodes_system V h x.keeps in (
        count_there whole (terms_system V) lT t.closed t.congruence x.congruence x.classes assumed table n,
        count_there whole lT (terms_system V) (nodes_closed h x.whole) x.congruence t.congruence
            (classes_flip x.classes) assumed table n,
      )

  -- nothing is left to join on the nodes exactly where nothing is at the height
  pub exact_saturated : IsSaturated (form_at g.nodes) assumed table (terms (form_at g.nodes)) (height (form_at g.nodes) assumed table k).Member (height (form_at g.nodes) assumed table k).Joins
      ↔ IsSaturated (form_at g.nodes) assumed table (nodes h) (IsNode h) (OneClass numbers)
  exact_saturated =
      let V : View = form_at g.nodes in
      let x = reached_exact g whole assumed table k h numbers r in
      let t = is_height V whole assumed table k in
      let H = height V assumed table k in
      let lT = nodes_system V h x.keeps in
      let c = nodes_closed h x.whole in (
        saturated_there whole (terms_system V) lT t.closed c t.congruence x.congruence x.classes assumed table,
        saturated_there whole lT (terms_system V) c t.closed x.congruence t.congruence
            (classes_flip x.classes) assumed table,
      )

  -- a search in which no match joins more is at the next height as it is
  pub saturated_reached : IsSaturated (form_at g.nodes) assumed table (nodes h) (IsNode h) (OneClass numbers) → Reached g assumed table (suc k) h numbers
  saturated_reached s =
      let x = reached_exact g whole assumed table k h numbers r in
      let step = saturated_round (form_at g.nodes) (nodes h) (IsNode h) (OneClass numbers) assumed table x.congruence x.carried s in
      grow k h h numbers numbers [] (record { nodes = λ n nd p. p; sorts = λ n t p. p }) x.whole r
      (record {
        kept = step.kept;
        made = step.made;
        joined = λ a b j. inl j;
        full = λ m i. let f = step.full m i in (f.0, f.1, f.2, inl f.3);
        given = given_by x;
      })
      (record { sound = λ a b j. given [] a b (inl j); full = λ a b j. x.ended a b (joined-more (nodes h) (IsNode h) [] (Joining numbers []) (OneClass numbers) no_pairs [] a b j) })
    where
      no_pairs : (a b : ℕ) → Joining numbers [] a b → OneClass numbers a b
      no_pairs a b (inl j) = j
      no_pairs a b (inr j) = absurd j

      given_by : IsExact g assumed table k h numbers → (a b : ℕ) → Joining numbers [] a b
          → (IsNode h a × IsNode h b × OneClass numbers a b) ⊎ ((m : Match ℕ) × IsMatch (form_at g.nodes) assumed table (nodes h) (IsNode h) (OneClass numbers) m × AreSidesOf (nodes h) (IsNode h) (OneClass numbers) (IsNode h) m a b)
      given_by x a b (inl j) = let c = x.carried a b j in inl (c.0, c.1, j)
      given_by x a b (inr j) = absurd j
