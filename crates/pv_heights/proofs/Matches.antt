-- The matches of both sides are the same, and as many.
use Rattle.std.proofs.Common.{◌≡◌, ℕ, zero, suc, List, [], ◌∷◌, Some, slice_get, refl, sym, ◌∙◌, subst}
use Rattle.std.specs.List.{AllZip, AllByRecursion}
use Rattle.pv_graph.specs.Walks.{In}
use Rattle.pv_pattern.specs.declared.names.NameId.{NameId}
use Rattle.pv_pattern.specs.Patterns.{Axiom, Side, settled, not_free, symbols_differ, kinds_differ, not_byte, constants_differ}
use Rattle.pv_pattern.specs.Binding.{names}
use Rattle.pv_steps.specs.Facts.{View}
use Rattle.pv_heights.specs.Systems.{System, Relation, Subset}
use Rattle.pv_heights.specs.Filled.{Params}
use Rattle.pv_heights.specs.Sides.{Match}
use Rattle.pv_heights.specs.Conditions.{NotFree, Holds}
use Rattle.pv_heights.specs.Matches.{IsMatch, AgreeOn, AreOne, AtLeast, IsSaturated}
use Rattle.pv_heights.specs.Heights.{Corresponds}
use Rattle.pv_heights.specs.Searches.{IsWhole}
use Rattle.pv_heights.specs.SameClasses.{IsSystem, AreClosed, IsCongruence, Near, SameClasses}
use Rattle.pv_heights.proofs.Zips.{zip_length}
use Rattle.pv_heights.proofs.Both.{classes_flip, near_back, near_flip, near_there}
use Rattle.pv_heights.proofs.Sides.{zip_empty, zip_left, zip_right, class_holds, stands_there, settled_there, not_free_there}

pub all_map : {A : Type 0} (P Q : A → Type 0) → ((a : A) → P a → Q a) → (xs : List A) → AllByRecursion P xs → AllByRecursion Q xs
all_map P Q f [] h = tt
all_map P Q f (x ∷ xs) h = (f x h.0, all_map P Q f xs h.1)

pub zip_alone : {A B : Type 0} (R : A → B → Type 0) (xs : List A) (ys : List B) → AllZip R xs ys → xs ≡ [] → ys ≡ []
zip_alone R xs ys z e = zip_empty R ys (subst (λ v. AllZip R v ys) e z)

module _ {view : View} (whole : IsWhole view) {S T : System} (lS : IsSystem view S) (lT : IsSystem view T) {C : Subset S} {D : Subset T} {J : Relation S} {E : Relation T}
    (closed : AreClosed S C) (cJ : IsCongruence view S C J) (cE : IsCongruence view T D E) (h : SameClasses view S T C D J E) (assumed : List ℕ) (table : List Axiom) where
  abbrev N : S.Thing → T.Thing → Type 0
  N = Near view S T D E

  all_there : (xs : List S.Thing) → AllByRecursion C xs → (ys : List T.Thing) × AllByRecursion D ys × AllZip N xs ys
  all_there [] c = ([], tt, tt)
  all_there (x ∷ xs) c =
      let y = near_there whole lS lT closed cJ cE h x c.0 in let r = all_there xs c.1 in
      (y.0 ∷ r.0, (y.1, r.1), (y.2, r.2))

  holds_there : (m : Match S.Thing) (n : Match T.Thing) → Corresponds N m n → (s : Side) → Holds view assumed S C J m s → Holds view assumed T D E n s
  holds_there m n o (settled j) k =
      let r = zip_left N m.vars n.vars o.vars j k.0 k.1 in (r.0, r.1, settled_there whole lS lT closed cJ cE h assumed k.0 k.2 r.0 r.2)
  holds_there m n o (not_free j) k =
      let r = zip_left N m.vars n.vars o.vars j k.0 k.1 in
      (r.0, r.1, subst (λ (ps : Params). NotFree view ps.depth T D E r.0) o.params (not_free_there whole lS lT closed cJ cE h m.params.depth k.0 k.2 r.0 r.2))
  holds_there m n o (symbols_differ s t) k = subst (λ (ps : Params). Holds view assumed T D E (record n { params = ps }) (symbols_differ s t)) o.params k
  holds_there m n o (kinds_differ i l) k = subst (λ (ps : Params). Holds view assumed T D E (record n { params = ps }) (kinds_differ i l)) o.params k
  holds_there m n o (not_byte i) k = subst (λ (ps : Params). Holds view assumed T D E (record n { params = ps }) (not_byte i)) o.params k
  holds_there m n o (constants_differ i l) k = subst (λ (ps : Params). Holds view assumed T D E (record n { params = ps }) (constants_differ i l)) o.params k

  pub match_there : (m : Match S.Thing) → IsMatch view assumed table S C J m → (n : Match T.Thing) × IsMatch view assumed table T D E n × Corresponds N m n
  match_there m i =
      let ks = all_there m.kids i.kids in
      let xs = all_there m.vars i.vars in
      let n : Match T.Thing = record { entry = m.entry; params = m.params; kids = ks.0; vars = xs.0 } in
      let o : Corresponds N m n = record { entry = refl; params = refl; kids = ks.2; vars = xs.2 } in
      let t = near_there whole lS lT closed cJ cE h i.at_ i.is in (
        n,
        record {
          of_table = i.of_table;
          kids = ks.1;
          vars = xs.1;
          long = sym (zip_length N m.vars xs.0 xs.2) ∙ i.long;
          alone = λ f. zip_alone N m.kids ks.0 ks.2 (i.alone f);
          at_ = t.0;
          is = t.1;
          stands = stands_there whole lS lT closed cJ cE h m n o m.entry.left i.at_ t.0 t.2 i.stands;
          constants = λ j v.
              let c = i.constants j v in let r = zip_left N m.vars xs.0 xs.2 j c.0 c.2 in
              (r.0, c.1, r.1, c.3, class_holds whole lS lT closed cJ cE h c.0 r.0 r.2 c.1 c.4);
          sides = all_map (Holds view assumed S C J m) (Holds view assumed T D E n) (holds_there m n o) m.entry.sides i.sides;
        },
        o,
      )

  matches_there : (ms : List (Match S.Thing)) → ((j : ℕ) (m : Match S.Thing) → slice_get ms j ≡ Some m → IsMatch view assumed table S C J m)
      → (ns : List (Match T.Thing)) × AllZip (λ m n. IsMatch view assumed table S C J m × IsMatch view assumed table T D E n × Corresponds N m n) ms ns
  matches_there [] p = ([], tt)
  matches_there (m ∷ ms) p = let n = match_there m (p zero m refl) in let r = matches_there ms (λ j k e. p (suc j) k e) in (n.0 ∷ r.0, ((p zero m refl, n.1, n.2), r.1))

  agree_back : (p q r s : Params) → p ≡ r → q ≡ s → (i : NameId) → AgreeOn r s i → AgreeOn p q i
  agree_back p q r s e f i a = subst (λ v. AgreeOn v q i) (sym e) (subst (λ v. AgreeOn r v i) (sym f) a)

  -- things with near ones that are joined are joined
  zip_back : (xs bs : List S.Thing) (ys zs : List T.Thing) → AllByRecursion C xs → AllByRecursion C bs → AllZip N xs ys → AllZip N bs zs → AllZip E ys zs → AllZip J xs bs
  zip_back [] [] ys zs c d m n e = tt
  zip_back [] (b ∷ bs) [] [] c d m n e = absurd n
  zip_back [] (b ∷ bs) [] (z ∷ zs) c d m n e = absurd e
  zip_back [] (b ∷ bs) (y ∷ ys) zs c d m n e = absurd m
  zip_back (x ∷ xs) bs [] zs c d m n e = absurd m
  zip_back (x ∷ xs) bs (y ∷ ys) [] c d m n e = absurd e
  zip_back (x ∷ xs) [] (y ∷ ys) (z ∷ zs) c d m n e = absurd n
  zip_back (x ∷ xs) (b ∷ bs) (y ∷ ys) (z ∷ zs) c d m n e = (near_back whole lS lT closed cJ cE h x b y z c.0 d.0 m.0 n.0 e.0, zip_back xs bs ys zs c.1 d.1 m.1 n.1 e.1)

  one_match : (a b : Match S.Thing) (k l : Match T.Thing) → IsMatch view assumed table S C J a → IsMatch view assumed table S C J b → Corresponds N a k → Corresponds N b l → AreOne E k l → AreOne J a b
  one_match a b k l p q r s o = record {
    entry = r.entry ∙ o.entry ∙ sym s.entry;
    params = λ i v. agree_back a.params b.params k.params l.params r.params s.params i (o.params i (subst (λ (e : Axiom). In (names e.left) i) r.entry v));
    kids = zip_back a.kids b.kids k.kids l.kids p.kids q.kids r.kids s.kids o.kids;
    vars = zip_back a.vars b.vars k.vars l.vars p.vars q.vars r.vars s.vars o.vars;
  }

  zip_turn : (xs : List S.Thing) (ys : List T.Thing) → AllByRecursion C xs → AllByRecursion D ys → AllZip N xs ys → AllZip (Near view T S C J) ys xs
  zip_turn [] [] c d z = tt
  zip_turn [] (y ∷ ys) c d z = absurd z
  zip_turn (x ∷ xs) [] c d z = absurd z
  zip_turn (x ∷ xs) (y ∷ ys) c d z = (near_flip whole lS lT closed cJ cE h x y c.0 d.0 z.0, zip_turn xs ys c.1 d.1 z.1)

  pub over_flip : (m : Match S.Thing) (n : Match T.Thing) → IsMatch view assumed table S C J m → IsMatch view assumed table T D E n → Corresponds N m n → Corresponds (Near view T S C J) n m
  over_flip m n i k o = record { entry = sym o.entry; params = sym o.params; kids = zip_turn m.kids n.kids i.kids k.kids o.kids; vars = zip_turn m.vars n.vars i.vars k.vars o.vars }

  -- as many matches
  pub count_there : (n : ℕ) → AtLeast view assumed table S C J n → AtLeast view assumed table T D E n
  count_there n c =
      let r = matches_there c.list c.each in
      let R : Match S.Thing → Match T.Thing → Type 0 = λ m n. IsMatch view assumed table S C J m × IsMatch view assumed table T D E n × Corresponds N m n in
      record {
        list = r.0;
        long = sym (zip_length R c.list r.0 r.1) ∙ c.long;
        each = λ j k e. (zip_right R c.list r.0 r.1 j k e).2.1;
        once = λ i j k l f d e o.
            let a = zip_right R c.list r.0 r.1 i k d in let b = zip_right R c.list r.0 r.1 j l e in
            c.once i j a.0 b.0 f a.1 b.1 (one_match a.0 b.0 k l a.2.0 b.2.0 a.2.2 b.2.2 o);
      }

-- a side in which no match joins more is so on the other one too
pub saturated_there : {view : View} (whole : IsWhole view) {S T : System} (lS : IsSystem view S) (lT : IsSystem view T) {C : Subset S} {D : Subset T} {J : Relation S} {E : Relation T}
    (closed : AreClosed S C) (also : AreClosed T D) (cJ : IsCongruence view S C J) (cE : IsCongruence view T D E) (h : SameClasses view S T C D J E) (assumed : List ℕ) (table : List Axiom)
    → IsSaturated view assumed table S C J → IsSaturated view assumed table T D E
unfolding match_there
saturated_there whole lS lT closed also cJ cE h assumed table q m t i p s =
    let b = classes_flip h in
    let n = match_there whole lT lS also cE cJ b assumed table m i in
    let u = near_there whole lT lS also cE cJ b t p in
    let left = stands_there whole lT lS also cE cJ b m n.0 n.2 m.entry.left t u.0 u.2 s in
    let right = q n.0 u.0 n.1 u.1 left in
    stands_there whole lS lT closed cJ cE h n.0 m (over_flip whole lT lS also cE cJ b assumed table m n.0 i n.1 n.2) m.entry.right u.0 t
    (near_flip whole lT lS also cE cJ b t u.0 p u.1 u.2) right
