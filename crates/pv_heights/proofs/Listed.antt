-- A round by a list of matches is a round on nodes, and with a closing it takes a search to the next height.
use Rattle.std.proofs.Common.{◌≡◌, ℕ, suc, List, [], ◌∷◌, length, Some, slice_get, ◌⊎◌, inl, inr, refl, sym, ◌∙◌, subst}
use Rattle.pv_graph.specs.declared.node.Op.{Op}
use Rattle.pv_graph.specs.Walks.{In}
use Rattle.pv_graph.specs.Graphs.{Graph, form_at, Extends}
use Rattle.pv_pattern.specs.declared.names.NameId.{NameId}
use Rattle.pv_pattern.specs.declared.names.NameId.TheVariants as name
use Rattle.pv_pattern.specs.Patterns.{Pattern, Axiom, Side, settled, not_free, symbols_differ, kinds_differ, not_byte, constants_differ}
use Rattle.pv_pattern.specs.Binding.{names, BindsItsNames}
use Rattle.pv_steps.specs.Facts.{View}
use Rattle.pv_heights.specs.Systems.{System, Joined, given, Relation, Subset}
use Rattle.pv_heights.specs.Filled.{Params, kid, variable, Filled, at, of, Parts, no_part, part}
use Rattle.pv_heights.specs.Sides.{Match, ClassHas, InClass, AllInClass, StandsIn, IsSide, AreSides, IsSideOf}
use Rattle.pv_heights.specs.Conditions.{ClassNode, Settled, NotFree, Holds}
use Rattle.pv_heights.specs.Matches.{IsMatch, AgreeOn, AreOne}
use Rattle.pv_heights.specs.Searches.{IsWhole, nodes, IsNode, OneClass, Joining, AreJoined, BothStand, IsMatchAt, IsRound, Reached, grow}
use Rattle.pv_heights.specs.SameClasses.{IsCongruence}
use Rattle.pv_heights.specs.Rounds.{Copy, itself, ClassCopy, IsMadePart, IsInstanceOf, AreSidesOf, IsRoundOn}
use Rattle.pv_heights.proofs.Zips.{zip_join}
use Rattle.pv_heights.proofs.Matches.{all_map}
use Rattle.pv_heights.proofs.Height.{over_self}
use Rattle.pv_heights.proofs.Induct.{close-close}
use Rattle.pv_heights.proofs.Both.{In-slice_get, place_of}
use Rattle.pv_heights.proofs.Nodes.{Keeps, extends_keeps, node_is_base, base_is_node}
use Rattle.pv_heights.proofs.Reached.{reached_exact, has_less, more_congruence}
use Rattle.pv_heights.proofs.Named.{filled_agrees, right_named}
use Rattle.pv_heights.proofs.Saturation.{both_on_one}

-- ---- matches on one graph are matches on another that has the same nodes there

module _ (s t : Graph) (C : ℕ → Type 0) (J : ℕ → ℕ → Type 0) (over : (n : ℕ) (o : Op) (ks : List ℕ) → C n → (nodes s).Has n o ks → (nodes t).Has n o ks) where
  class_has_on : (u : ℕ) (o : Op) (ks : List ℕ) → ClassHas (nodes s) C J u o ks → ClassHas (nodes t) C J u o ks
  class_has_on u o ks c = record { thing = c.thing; is = c.is; joins = c.joins; has = over c.thing o ks c.is c.has }

  mutual
    class_on : (m : Match ℕ) (f : Filled) (u : ℕ) → InClass (nodes s) C J m f u → InClass (nodes t) C J m f u
    class_on m (at x) u h = h
    class_on m (of o ps) u h = (h.0, class_has_on u o h.0 h.1, classes_on m ps h.0 h.2)

    classes_on : (m : Match ℕ) (ps : Parts) (us : List ℕ) → AllInClass (nodes s) C J m ps us → AllInClass (nodes t) C J m ps us
    classes_on m no_part [] h = h
    classes_on m no_part (u ∷ us) h = h
    classes_on m (part p ps) [] h = h
    classes_on m (part p ps) (u ∷ us) h = (class_on m p u h.0, classes_on m ps us h.1)

  class_node_on : (view : View) (u n : ℕ) → ClassNode view (nodes s) J u n → ClassNode view (nodes t) J u n
  class_node_on view u n c = record { o = c.o; ks = c.ks; is = c.is; joins = c.joins }

  settled_on : (view : View) (assumed : List ℕ) (u : ℕ) → Settled view assumed (nodes s) C J u → Settled view assumed (nodes t) C J u
  settled_on view assumed u (Settled.by_node n _ c k) = Settled.by_node n u (class_node_on view u n c) k
  settled_on view assumed u (Settled.by_kids _ o ks c m r) = Settled.by_kids u o ks (class_has_on u o ks c) m (λ j k e. settled_on view assumed k (r j k e))

  not_free_on : (view : View) (d u : ℕ) → NotFree view d (nodes s) C J u → NotFree view d (nodes t) C J u
  not_free_on view d u (NotFree.by_node n _ c k) = NotFree.by_node n u (class_node_on view u n c) k
  not_free_on view d u (NotFree.by_kids _ o ks c m r) = NotFree.by_kids u o ks (class_has_on u o ks c) m (λ j k e. not_free_on view d k (r j k e))

  holds_on : (view : View) (assumed : List ℕ) (m : Match ℕ) (c : Side) → Holds view assumed (nodes s) C J m c → Holds view assumed (nodes t) C J m c
  holds_on view assumed m (settled j) h = (h.0, h.1, settled_on view assumed h.0 h.2)
  holds_on view assumed m (not_free j) h = (h.0, h.1, not_free_on view m.params.depth h.0 h.2)
  holds_on view assumed m (symbols_differ a b) h = h
  holds_on view assumed m (kinds_differ a b) h = h
  holds_on view assumed m (not_byte a) h = h
  holds_on view assumed m (constants_differ a b) h = h

  pub match_on : (view : View) (assumed : List ℕ) (table : List Axiom) (m : Match ℕ) → IsMatch view assumed table (nodes s) C J m → IsMatch view assumed table (nodes t) C J m
  match_on view assumed table m i = record {
    of_table = i.of_table;
    kids = i.kids;
    vars = i.vars;
    long = i.long;
    alone = i.alone;
    at_ = i.at_;
    is = i.is;
    stands = (i.stands.0, i.stands.1, class_on m i.stands.0 i.at_ i.stands.2);
    constants = λ j v. let c = i.constants j v in (c.0, c.1, c.2, c.3, class_has_on c.0 c.1 [] c.4);
    sides = all_map (Holds view assumed (nodes s) C J m) (Holds view assumed (nodes t) C J m) (holds_on view assumed m) m.entry.sides i.sides;
  }

-- ---- an instance of a listed match serves each match that is one with it

module _ (S : System) (C : Subset S) (CNext : Subset S) where
  mutual
    side_on : (m n : Match S.Thing) → m.kids ≡ n.kids → m.vars ≡ n.vars → (f : Filled) (a : S.Thing) → IsSide S CNext m f a → IsSide S CNext n f a
    side_on m n e d (at (kid i)) a h = subst (λ ks. slice_get ks i ≡ Some a) e h
    side_on m n e d (at (variable j)) a h = subst (λ xs. slice_get xs j ≡ Some a) d h
    side_on m n e d (of o ps) a h = (h.0, h.1, h.2, sides_on m n e d ps h.0 h.3)

    sides_on : (m n : Match S.Thing) → m.kids ≡ n.kids → m.vars ≡ n.vars → (ps : Parts) (ks : List S.Thing) → AreSides S CNext m ps ks → AreSides S CNext n ps ks
    sides_on m n e d no_part [] h = h
    sides_on m n e d no_part (k ∷ ks) h = h
    sides_on m n e d (part p ps) [] h = h
    sides_on m n e d (part p ps) (k ∷ ks) h = (side_on m n e d p k h.0, sides_on m n e d ps ks h.1)

pub listed_sides : (view : View) (assumed : List ℕ) (table : List Axiom) (S : System) (C : Subset S) (J : Relation S) (CNext : Subset S) → IsCongruence view S C J
    → (m n : Match S.Thing) → BindsItsNames m.entry → AreOne J m n → (a b : S.Thing) → IsInstanceOf S C J CNext n a b → AreSidesOf S C J CNext m a b
listed_sides view assumed table S C J CNext c m n binds o a b s = record {
  chosen = own;
  is_chosen = record {
    entry = refl;
    params = refl;
    kids = zip_join J (ClassCopy S C J CNext) (ClassCopy S C J CNext) from m.kids n.kids s.chosen.kids o.kids s.is_chosen.kids;
    vars = zip_join J (ClassCopy S C J CNext) (ClassCopy S C J CNext) from m.vars n.vars s.chosen.vars o.vars s.is_chosen.vars;
  };
  left = inr (same m.entry.left (λ i v. v) a (subst (λ (e : Axiom). IsSideOf S CNext s.chosen e.left a) (sym o.entry) s.left));
  right = inr (same m.entry.right (right_named m.entry binds) b (subst (λ (e : Axiom). IsSideOf S CNext s.chosen e.right b) (sym o.entry) s.right));
}
  where
    own : Match S.Thing
    own = record { entry = m.entry; params = m.params; kids = s.chosen.kids; vars = s.chosen.vars }

    from : (x y z : S.Thing) → J x y → ClassCopy S C J CNext y z → ClassCopy S C J CNext x z
    from x y z j k = record { thing = k.thing; is = k.is; joins = c.chain x y k.thing j k.joins; copy = k.copy }

    agree : (i : NameId) → In (names m.entry.left) i → AgreeOn m.params s.chosen.params i
    agree i v = subst (λ (ps : Params). AgreeOn m.params ps i) s.is_chosen.params (o.params i v)

    same : (p : Pattern) → ((i : NameId) → In (names p) i → In (names m.entry.left) i) → (u : S.Thing) → IsSideOf S CNext s.chosen p u → IsSideOf S CNext own p u
    same p up u h = (h.0, filled_agrees m.params s.chosen.params (length s.chosen.kids) p (λ i v. agree i (up i v)) ∙ h.1, side_on S C CNext s.chosen own refl refl h.0 u h.2)

-- ---- a round

-- two things serve as the sides of the match, and are given
abbrev IsServed : Graph → Graph → List ℕ → List (ℕ × ℕ) → Match ℕ → Type 0
IsServed h i numbers pairs m = (a : ℕ) × (b : ℕ) × AreSidesOf (nodes i) (IsNode h) (OneClass numbers) (IsNode i) m a b × Joining numbers pairs a b

pub list_round : (view : View) (assumed : List ℕ) (table : List Axiom) (h i : Graph) (numbers : List ℕ) (pairs : List (ℕ × ℕ)) → Extends h i → ((a b : ℕ) → OneClass numbers a b → IsNode h a × IsNode h b)
    → IsCongruence view (nodes i) (IsNode h) (OneClass numbers) → ((e : Axiom) → In table e → BindsItsNames e) → IsRound view assumed table h i numbers pairs
    → IsRoundOn view assumed table (nodes i) (IsNode h) (OneClass numbers) (IsNode i) (Joining numbers pairs)
list_round view assumed table h i numbers pairs e carried c binds r = record {
  kept = kept;
  made = λ a d. made a (r.made a d);
  joined = λ a b j. inl j;
  full = λ m k. let n = r.are.all m (less m k) in served m n.1 k n.3 (r.joins n.1 (In-slice_get r.list n.0 n.1 n.2));
  given = given_by;
}
  where
    up : Keeps (form_at h.nodes) (form_at i.nodes)
    up = extends_keeps h i e

    each : (m : Match ℕ) → In r.list m → IsMatchAt view assumed table h numbers m
    each m k = let p = place_of r.list m k in r.are.each p.0 m p.1

    kept : (a : ℕ) → IsNode h a → IsNode i a
    kept a d = let b = node_is_base h a d in base_is_node i a (b.0, b.1, up a b.0 b.1 b.2)

    less : (m : Match ℕ) → IsMatch view assumed table (nodes i) (IsNode h) (OneClass numbers) m → IsMatchAt view assumed table h numbers m
    less m k = match_on i h (IsNode h) (OneClass numbers) (λ n o ks d q. has_less view h i up n d o ks q) view assumed table m k

    more : (m : Match ℕ) → IsMatchAt view assumed table h numbers m → IsMatch view assumed table (nodes i) (IsNode h) (OneClass numbers) m
    more m k = match_on h i (IsNode h) (OneClass numbers) (λ n o ks d q. up n o ks q) view assumed table m k

    made : (a : ℕ) → IsNode h a ⊎ ((m : Match ℕ) × In r.list m × IsMadePart (nodes i) (IsNode h) (OneClass numbers) (IsNode i) m a) ⊎ ((u : ℕ) × Copy (nodes i) (IsNode h) (OneClass numbers) (IsNode i) a u)
        → IsNode h a ⊎ ((m : Match ℕ) × IsMatch view assumed table (nodes i) (IsNode h) (OneClass numbers) m × IsMadePart (nodes i) (IsNode h) (OneClass numbers) (IsNode i) m a) ⊎ ((u : ℕ) × Copy (nodes i) (IsNode h) (OneClass numbers) (IsNode i) a u)
    made a (inl d) = inl d
    made a (inr (inl k)) = inr (inl (k.0, more k.0 (each k.0 k.1), k.2))
    made a (inr (inr k)) = inr (inr k)

    sides : (m n : Match ℕ) → IsMatch view assumed table (nodes i) (IsNode h) (OneClass numbers) m → AreOne (OneClass numbers) m n → (a b : ℕ) → IsInstanceOf (nodes i) (IsNode h) (OneClass numbers) (IsNode i) n a b
        → AreSidesOf (nodes i) (IsNode h) (OneClass numbers) (IsNode i) m a b
    sides m n k o a b s = listed_sides view assumed table (nodes i) (IsNode h) (OneClass numbers) (IsNode i) c m n (binds m.entry k.of_table) o a b s

    -- a thing in whose class both sides of a listed match stand serves as both sides of each match that is one with it
    stand : (m n : Match ℕ) → IsMatch view assumed table (nodes i) (IsNode h) (OneClass numbers) m → AreOne (OneClass numbers) m n → BothStand (nodes h) (IsNode h) (OneClass numbers) n → IsServed h i numbers pairs m
    stand m n k o s =
        let on : (p : Pattern) → StandsIn (nodes h) (IsNode h) (OneClass numbers) n p s.0 → StandsIn (nodes i) (IsNode h) (OneClass numbers) n p s.0 = λ p q.
        (q.0, q.1, class_on h i (IsNode h) (OneClass numbers) (λ x y ks d e. up x y ks e) n q.0 s.0 q.2) in
        let t = both_on_one view (nodes i) (IsNode h) (OneClass numbers) c m n (binds m.entry k.of_table) o (s.0, s.1, on n.entry.left s.2, on n.entry.right s.3) in (
          t.0,
          t.0,
          record {
            chosen = m;
            is_chosen = over_self (IsNode h) (ClassCopy (nodes i) (IsNode h) (OneClass numbers) (IsNode i)) (λ a d. record { thing = a; is = d; joins = c.same a d; copy = itself a a d refl }) m k.kids k.vars;
            left = inl (t.1, t.2);
            right = inl (t.1, t.3);
          },
          inl (c.same t.0 t.1),
        )

    served : (m n : Match ℕ) → IsMatch view assumed table (nodes i) (IsNode h) (OneClass numbers) m → AreOne (OneClass numbers) m n
        → BothStand (nodes h) (IsNode h) (OneClass numbers) n ⊎ ((a : ℕ) × (b : ℕ) × In pairs (a, b) × IsInstanceOf (nodes i) (IsNode h) (OneClass numbers) (IsNode i) n a b) → IsServed h i numbers pairs m
    served m n k o (inl s) = stand m n k o s
    served m n k o (inr p) = (p.0, p.1, sides m n k o p.0 p.1 p.3, inr p.2)

    given_by : (a b : ℕ) → Joining numbers pairs a b
        → (IsNode h a × IsNode h b × OneClass numbers a b) ⊎ ((m : Match ℕ) × IsMatch view assumed table (nodes i) (IsNode h) (OneClass numbers) m × AreSidesOf (nodes i) (IsNode h) (OneClass numbers) (IsNode i) m a b)
    given_by a b (inl j) = let d = carried a b j in inl (d.0, d.1, j)
    given_by a b (inr k) =
        let n = r.from a b k in let m = more n.0 (each n.0 n.1) in
        let self = over_self (IsNode h) (OneClass numbers) c.same n.0 m.kids m.vars in
        inr (n.0, m, sides n.0 n.0 m (record { entry = refl; params = λ j v. agree_self n.0.params j; kids = self.kids; vars = self.vars }) a b n.2)
      where
        agree_self : (ps : Params) (j : NameId) → AgreeOn ps ps j
        agree_self ps name.Depth = refl
        agree_self ps (name.Symbol s) = refl
        agree_self ps (name.Kind s) = refl
        agree_self ps (name.Constant s) = refl
        agree_self ps name.Operation = refl

-- a round, the joins of its pairs, and a closing with all inductions
pub round_reached : (g : Graph) → IsWhole (form_at g.nodes) → (assumed : List ℕ) (table : List Axiom) → ((e : Axiom) → In table e → BindsItsNames e)
    → (k : ℕ) (h i : Graph) (numbers before after : List ℕ) (pairs : List (ℕ × ℕ)) → Extends h i → IsWhole (form_at i.nodes) → Reached g assumed table k h numbers → IsRound (form_at g.nodes) assumed table h i numbers pairs
    → ((a b : ℕ) → Joining numbers pairs a b → OneClass before a b)
    → ((a b : ℕ) → OneClass before a b → Joined (nodes i) (IsNode i) [] (Joining numbers pairs) [] a b)
    → AreJoined i (OneClass before) after → Reached g assumed table (suc k) i after
round_reached g whole assumed table binds k h i numbers before after pairs e wi r round p q j =
    let x = reached_exact g whole assumed table k h numbers r in
    let up = extends_keeps h i e in
    grow k h i numbers after pairs e wi r
    (list_round (form_at g.nodes) assumed table h i numbers pairs e x.carried (more_congruence (form_at g.nodes) h i up (OneClass numbers) x.congruence) binds round)
    (record {
      sound = λ a b c. close-close (nodes i) (IsNode i) [] (OneClass before) (Joining numbers pairs) q a b (j.sound a b c);
      full = λ a b c. j.full a b (close-close (nodes i) (IsNode i) [] (Joining numbers pairs) (OneClass before) (λ d f m. given [] d f (p d f m)) a b c);
    })
