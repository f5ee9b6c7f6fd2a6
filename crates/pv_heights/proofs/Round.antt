-- Sides over classes and over things: where they stand, and what is near them.
use Rattle.std.proofs.Common.{◌≡◌, ℕ, List, [], ◌∷◌, Some, ◌⊎◌, inl, inr, refl, sym, ◌∙◌, subst}
use Rattle.std.specs.List.{AllZip}
use Rattle.pv_graph.specs.declared.node.Op.{Op}
use Rattle.pv_steps.specs.Facts.{View}
use Rattle.pv_heights.specs.Systems.{System, Relation, Subset}
use Rattle.pv_heights.specs.Filled.{Hole, Filled, at, of, Parts, no_part, part}
use Rattle.pv_heights.specs.Sides.{Match, thing_at, ClassHas, InClass, AllInClass, IsSide, AreSides}
use Rattle.pv_heights.specs.Heights.{Corresponds, IsBase}
use Rattle.pv_heights.specs.Searches.{IsWhole}
use Rattle.pv_heights.specs.SameClasses.{IsNew, IsSystem, IsCongruence, StandsFor, node, made, Near}
use Rattle.pv_heights.specs.Rounds.{IsPart, IsPartOf}
use Rattle.pv_heights.proofs.Zips.{some_once, zip_get, zip_length, zip_map}
use Rattle.pv_heights.proofs.Stand.{stand_has, stand_once}
use Rattle.pv_heights.proofs.Sides.{thing_over}

module _ (view : View) (S : System) (C : Subset S) (J : Relation S) (c : IsCongruence view S C J) where
  has_once : (o : Op) (ks ls : List S.Thing) (y z : S.Thing) → ClassHas S C J y o ks → ClassHas S C J z o ls → AllZip J ks ls → J y z
  has_once o ks ls y z h k zs =
      c.chain y h.thing z (c.flip y h.thing h.joins) (c.chain h.thing k.thing z (c.kids h.thing k.thing o ks ls h.is k.is h.has k.has zs) k.joins)

  -- a side stands in one class
  mutual
    pub in_class_once : (m n : Match S.Thing) → Corresponds J m n → (s : Filled) (y z : S.Thing) → InClass S C J m s y → InClass S C J n s z → J y z
    in_class_once m n r (at x) y z h k =
        let v = thing_over J m n r x h.0 h.1 in
        c.chain y h.0 z (c.flip y h.0 h.2) (c.chain h.0 v.0 z v.2 (subst (λ w. J w z) (some_once (sym k.1 ∙ v.1)) k.2))
    in_class_once m n r (of o ps) y z h k = has_once o h.0 k.0 y z h.1 k.1 (in_classes_once m n r ps h.0 k.0 h.2 k.2)

    pub in_classes_once : (m n : Match S.Thing) → Corresponds J m n → (ps : Parts) (ys zs : List S.Thing) → AllInClass S C J m ps ys → AllInClass S C J n ps zs → AllZip J ys zs
    in_classes_once m n r no_part [] [] h k = tt
    in_classes_once m n r no_part [] (z ∷ zs) h k = k
    in_classes_once m n r no_part (y ∷ ys) zs h k = absurd h
    in_classes_once m n r (part p ps) [] zs h k = absurd h
    in_classes_once m n r (part p ps) (y ∷ ys) [] h k = k
    in_classes_once m n r (part p ps) (y ∷ ys) (z ∷ zs) h k = (in_class_once m n r p y z h.0 k.0, in_classes_once m n r ps ys zs h.1 k.1)

  -- a side over things stands in its own class
  mutual
    pub side_in_class : (m : Match S.Thing) → ((x : Hole) (u : S.Thing) → thing_at m x ≡ Some u → C u) → (s : Filled) (y : S.Thing) → IsSide S C m s y → InClass S C J m s y
    side_in_class m r (at x) y h = (y, h, c.same y (r x y h))
    side_in_class m r (of o ps) y h = (h.0, record { thing = y; is = h.1; joins = c.same y h.1; has = h.2 }, sides_in_class m r ps h.0 h.3)

    pub sides_in_class : (m : Match S.Thing) → ((x : Hole) (u : S.Thing) → thing_at m x ≡ Some u → C u) → (ps : Parts) (ys : List S.Thing) → AreSides S C m ps ys → AllInClass S C J m ps ys
    sides_in_class m r no_part [] h = tt
    sides_in_class m r no_part (y ∷ ys) h = h
    sides_in_class m r (part p ps) [] h = h
    sides_in_class m r (part p ps) (y ∷ ys) h = (side_in_class m r p y h.0, sides_in_class m r ps ys h.1)

module _ (S : System) (C : Subset S) (J : Relation S) where
  -- each part of a side that stands in a class stands in a class
  mutual
    pub part_in_class : (m : Match S.Thing) (p q : Filled) → IsPart p q → (y : S.Thing) → InClass S C J m q y → (z : S.Thing) × InClass S C J m p z
    part_in_class m p (at x) e y h = (y, subst (λ v. InClass S C J m v y) (sym e) h)
    part_in_class m p (of o ps) (inl e) y h = (y, subst (λ v. InClass S C J m v y) (sym e) h)
    part_in_class m p (of o ps) (inr e) y h = part_in_classes m p ps e h.0 h.2

    pub part_in_classes : (m : Match S.Thing) (p : Filled) (ps : Parts) → IsPartOf p ps → (ys : List S.Thing) → AllInClass S C J m ps ys → (z : S.Thing) × InClass S C J m p z
    part_in_classes m p no_part e ys h = absurd e
    part_in_classes m p (part q ps) e [] h = absurd h
    part_in_classes m p (part q ps) (inl e) (y ∷ ys) h = part_in_class m p q e y h.0
    part_in_classes m p (part q ps) (inr e) (y ∷ ys) h = part_in_classes m p ps e ys h.1

-- with more things and more joined, a side stands where it stood
module _ (S : System) (C : Subset S) (J : Relation S) (CNext : Subset S) (JNext : Relation S) (keeps : (a : S.Thing) → C a → CNext a) (keeps_joins : (a b : S.Thing) → J a b → JNext a b) where
  mutual
    pub in_class_more : (m : Match S.Thing) (s : Filled) (y : S.Thing) → InClass S C J m s y → InClass S CNext JNext m s y
    in_class_more m (at x) y h = (h.0, h.1, keeps_joins h.0 y h.2)
    in_class_more m (of o ps) y h =
        (h.0, record { thing = h.1.thing; is = keeps h.1.thing h.1.is; joins = keeps_joins h.1.thing y h.1.joins; has = h.1.has }, in_classes_more m ps h.0 h.2)

    pub in_classes_more : (m : Match S.Thing) (ps : Parts) (ys : List S.Thing) → AllInClass S C J m ps ys → AllInClass S CNext JNext m ps ys
    in_classes_more m no_part [] h = h
    in_classes_more m no_part (y ∷ ys) h = h
    in_classes_more m (part p ps) [] h = h
    in_classes_more m (part p ps) (y ∷ ys) h = (in_class_more m p y h.0, in_classes_more m ps ys h.1)

module _ (view : View) (S T : System) (D : Subset T) (E : Relation T) (DNext : Subset T) (ENext : Relation T) (keeps : (a : T.Thing) → D a → DNext a) (keeps_joins : (a b : T.Thing) → E a b → ENext a b) where
  pub stand_more : (x : S.Thing) (y : T.Thing) → StandsFor view S T D E x y → StandsFor view S T DNext ENext x y
  stand_more x y (node n _ _ h e f) = node n x y h e f
  stand_more x y (made _ _ o ks ls ws p q r s z l hs) = made x y o ks ls ws p q (keeps y r) s (zip_map E ENext keeps_joins ws ls z) l (λ j k w e f. stand_more k w (hs j k w e f))

module _ {view : View} (whole : IsWhole view) {S T : System} (lS : IsSystem view S) (lT : IsSystem view T) {D : Subset T} {E : Relation T} (cE : IsCongruence view T D E) where
  abbrev N : S.Thing → T.Thing → Type 0
  N = Near view S T D E

  nears_once : (ks : List S.Thing) (us vs : List T.Thing) → AllZip N ks us → AllZip N ks vs → AllZip E us vs
  nears_once [] [] [] m n = tt
  nears_once [] [] (v ∷ vs) m n = n
  nears_once [] (u ∷ us) vs m n = absurd m
  nears_once (k ∷ ks) [] vs m n = absurd m
  nears_once (k ∷ ks) (u ∷ us) [] m n = n
  nears_once (k ∷ ks) (u ∷ us) (v ∷ vs) m n = (
    cE.chain u m.0.thing v (cE.flip u m.0.thing m.0.joins)
        (cE.chain m.0.thing n.0.thing v (stand_once whole lS lT cE k m.0.thing n.0.thing m.0.stands n.0.stands) n.0.joins),
    nears_once ks us vs m.1 n.1,
  )

  split : (ks : List S.Thing) (ls : List T.Thing) → AllZip N ks ls → (ws : List T.Thing) × AllZip (StandsFor view S T D E) ks ws × AllZip E ws ls
  split [] [] z = ([], tt, tt)
  split [] (l ∷ ls) z = absurd z
  split (k ∷ ks) [] z = absurd z
  split (k ∷ ks) (l ∷ ls) z = let r = split ks ls z.1 in (z.0.thing ∷ r.0, (z.0.stands, r.1), (z.0.joins, r.2))

  -- with the operation, and kids near the kids, it is near
  pub stand_make : (a : S.Thing) (v : T.Thing) (o : Op) (ks : List S.Thing) (ls : List T.Thing) → S.Has a o ks → D v → T.Has v o ls → AllZip N ks ls → N a v
  stand_make a v o ks ls h d k z = go (lS.sorted a)
    where
      go : IsNew view S a ⊎ ((n : ℕ) × IsBase view n × (a ≡ S.node n)) → N a v
      go (inl q) =
          let r = split ks ls z in
          record {
            thing = v;
            stands = made a v o ks ls r.0 q h d k r.2 (zip_length (StandsFor view S T D E) ks r.0 r.1) (λ j i w e f. zip_get (StandsFor view S T D E) ks r.0 r.1 j i w e f);
            joins = cE.same v d;
          }
      go (inr q) =
          let s : StandsFor view S T D E a (T.node q.0) = node q.0 a (T.node q.0) q.1 q.2 refl in
          let r = stand_has whole lS lT cE a (T.node q.0) s o ks h in
          record { thing = T.node q.0; stands = s; joins = cE.kids (T.node q.0) v o r.0 ls (cE.nodes q.0 q.1) d r.1 k (nears_once ks r.0 ls r.2 z) }

  pub near_joined : (a : S.Thing) (y z : T.Thing) → N a y → E y z → N a z
  near_joined a y z n e = record { thing = n.thing; stands = n.stands; joins = cE.chain n.thing y z n.joins e }

  -- a side over things is near where it stands over near things
  mutual
    pub side_near : (CNext : Subset S) (m : Match S.Thing) (n : Match T.Thing) → Corresponds N m n → (s : Filled) (a : S.Thing) (y : T.Thing) → IsSide S CNext m s a → InClass T D E n s y → N a y
    side_near CNext m n r (at x) a y h k =
        let v = thing_over N m n r x a h in
        near_joined a v.0 y v.2 (subst (λ w. E w y) (some_once (sym k.1 ∙ v.1)) k.2)
    side_near CNext m n r (of o ps) a y h k =
        near_joined a k.1.thing y (stand_make a k.1.thing o h.0 k.0 h.2 k.1.is k.1.has (sides_near CNext m n r ps h.0 k.0 h.3 k.2)) k.1.joins

    pub sides_near : (CNext : Subset S) (m : Match S.Thing) (n : Match T.Thing) → Corresponds N m n → (ps : Parts) (ks : List S.Thing) (ls : List T.Thing) → AreSides S CNext m ps ks → AllInClass T D E n ps ls → AllZip N ks ls
    sides_near CNext m n r no_part [] [] h k = tt
    sides_near CNext m n r no_part [] (l ∷ ls) h k = k
    sides_near CNext m n r no_part (i ∷ ks) ls h k = absurd h
    sides_near CNext m n r (part p ps) [] ls h k = absurd h
    sides_near CNext m n r (part p ps) (i ∷ ks) [] h k = k
    sides_near CNext m n r (part p ps) (i ∷ ks) (l ∷ ls) h k = (side_near CNext m n r p i l h.0 k.0, sides_near CNext m n r ps ks ls h.1 k.1)
