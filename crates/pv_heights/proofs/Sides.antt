-- Sides and conditions on classes are the same on both sides.
use Rattle.std.proofs.Common.{◌≡◌, ℕ, zero, suc, List, [], ◌∷◌, Some, slice_get, refl, sym, ap₂, ◌∙◌, subst, cond, Bool, true, false, ◌==◌}
use Rattle.std.specs.List.{AllZip}
use Rattle.pv_graph.specs.declared.node.Op.{Op}
use Rattle.pv_graph.specs.Ops.{Shape, plain, choice, theta, eval, pass, shift, root, shape}
use Rattle.pv_graph.specs.Walks.{open_kids}
use Rattle.pv_pattern.specs.Patterns.{Pattern}
use Rattle.pv_steps.specs.Facts.{View}
use Rattle.pv_heights.specs.Systems.{System, Relation, Subset}
use Rattle.pv_heights.specs.Filled.{Hole, kid, variable, Filled, at, of, Parts, no_part, part, filled}
use Rattle.pv_heights.specs.Sides.{Match, thing_at, side, ClassHas, InClass, AllInClass, StandsIn}
use Rattle.pv_heights.specs.Conditions.{ClassNode, Settled, NotFree}
use Rattle.pv_heights.specs.Heights.{Corresponds}
use Rattle.pv_heights.specs.Searches.{IsWhole}
use Rattle.pv_heights.specs.SameClasses.{IsSystem, AreClosed, IsCongruence, Near, SameClasses}
use Rattle.pv_heights.proofs.Zips.{some_once, zip_length}
use Rattle.pv_heights.proofs.Both.{near_has, near_joins, near_node}

pub zip_empty : {A B : Type 0} (R : A → B → Type 0) (ls : List B) → AllZip R [] ls → ls ≡ []
zip_empty R [] z = refl
zip_empty R (l ∷ ls) z = absurd z

pub zip_right : {A B : Type 0} (R : A → B → Type 0) (ks : List A) (ls : List B) → AllZip R ks ls → (j : ℕ) (l : B) → slice_get ls j ≡ Some l → (k : A) × (slice_get ks j ≡ Some k) × R k l
zip_right R [] [] z j l e = absurd (cc)
zip_right R [] (m ∷ ls) z j l e = absurd z
zip_right R (k ∷ ks) [] z j l e = absurd z
zip_right R (k ∷ ks) (m ∷ ls) z zero l e = (k, refl, subst (λ v. R k v) (some_once e) z.0)
zip_right R (k ∷ ks) (m ∷ ls) z (suc j) l e = zip_right R ks ls z.1 j l e

pub zip_left : {A B : Type 0} (R : A → B → Type 0) (ks : List A) (ls : List B) → AllZip R ks ls → (j : ℕ) (k : A) → slice_get ks j ≡ Some k → (l : B) × (slice_get ls j ≡ Some l) × R k l
zip_left R [] ls z j k e = absurd (cc)
zip_left R (i ∷ ks) [] z j k e = absurd z
zip_left R (i ∷ ks) (m ∷ ls) z zero k e = (m, refl, subst (λ v. R v m) (some_once e) z.0)
zip_left R (i ∷ ks) (m ∷ ls) z (suc j) k e = zip_left R ks ls z.1 j k e

zip_cond : {A B : Type 0} (R : A → B → Type 0) (t : Bool) (ks ms : List A) (ls ns : List B) → AllZip R ks ls → AllZip R ms ns → AllZip R (cond t ks ms) (cond t ls ns)
zip_cond R true ks ms ls ns z w = z
zip_cond R false ks ms ls ns z w = w

pub zip_open : {A B : Type 0} (R : A → B → Type 0) (d : ℕ) (s : Shape) (ks : List A) (ls : List B) → AllZip R ks ls → AllZip R (open_kids d s ks) (open_kids d s ls)
zip_open R d (eval e) [] [] z = z
zip_open R d (eval e) [] (l ∷ ls) z = absurd z
zip_open R d (eval e) (k ∷ ks) [] z = absurd z
zip_open R d (eval e) (k ∷ ks) (l ∷ ls) z = zip_cond R (e == d) ks (k ∷ ks) ls (l ∷ ls) z.1 z
zip_open R d (pass e) ks ls z = zip_cond R (e == d) [] ks [] ls tt z
zip_open R d plain ks ls z = z
zip_open R d choice ks ls z = z
zip_open R d (theta e) ks ls z = z
zip_open R d (shift e) ks ls z = z
zip_open R d root ks ls z = z

-- ---- a match over other things

module _ {A B : Type 0} (R : A → B → Type 0) (m : Match A) (n : Match B) (o : Corresponds R m n) where
  pub thing_over : (x : Hole) (u : A) → thing_at m x ≡ Some u → (v : B) × (thing_at n x ≡ Some v) × R u v
  thing_over (kid i) u e = zip_left R m.kids n.kids o.kids i u e
  thing_over (variable j) u e = zip_left R m.vars n.vars o.vars j u e

  pub side_over : (p : Pattern) → side m p ≡ side n p
  side_over p = ap₂ (λ ps k. filled ps k p) o.params (zip_length R m.kids n.kids o.kids)

module _ {view : View} (whole : IsWhole view) {S T : System} (lS : IsSystem view S) (lT : IsSystem view T) {C : Subset S} {D : Subset T} {J : Relation S} {E : Relation T}
    (closed : AreClosed S C) (cJ : IsCongruence view S C J) (cE : IsCongruence view T D E) (h : SameClasses view S T C D J E) where
  abbrev N : S.Thing → T.Thing → Type 0
  N = Near view S T D E

  joins : (a b : S.Thing) (y z : T.Thing) → N a y → N b z → J a b → E y z
  joins = near_joins whole lS lT closed cJ cE h

  pub class_has : (t : S.Thing) (u : T.Thing) → N t u → (o : Op) (ks : List S.Thing) → ClassHas S C J t o ks → (ls : List T.Thing) × ClassHas T D E u o ls × AllZip N ks ls
  class_has t u n o ks c =
      let v = near_has whole lS lT closed cJ cE h c.thing o ks c.is c.has in
      (v.1, record { thing = v.0; is = v.2; joins = joins c.thing t v.0 u v.3 n c.joins; has = v.4 }, v.5)

  -- an operation over nothing
  pub class_holds : (t : S.Thing) (u : T.Thing) → N t u → (o : Op) → ClassHas S C J t o [] → ClassHas T D E u o []
  class_holds t u n o c = let v = class_has t u n o [] c in subst (ClassHas T D E u o) (zip_empty N v.0 v.2) v.1

  class_node : (t : S.Thing) (u : T.Thing) → N t u → (n : ℕ) → ClassNode view S J t n → ClassNode view T E u n
  class_node t u k n c =
      record { o = c.o; ks = c.ks; is = c.is; joins = joins (S.node n) t (T.node n) u (near_node whole lS lT closed cJ cE h n (c.o, c.ks, c.is)) k c.joins }

  mutual
    pub class_there : (m : Match S.Thing) (n : Match T.Thing) → Corresponds N m n → (s : Filled) (t : S.Thing) (u : T.Thing) → N t u → InClass S C J m s t → InClass T D E n s u
    class_there m n o (at x) t u k c = let r = thing_over N m n o x c.0 c.1 in (r.0, r.1, joins c.0 t r.0 u r.2 k c.2)
    class_there m n o (of p ps) t u k c = let v = class_has t u k p c.0 c.1 in (v.0, v.1, classes_there m n o ps c.0 v.0 v.2 c.2)

    pub classes_there : (m : Match S.Thing) (n : Match T.Thing) → Corresponds N m n → (ss : Parts) (ks : List S.Thing) (ls : List T.Thing) → AllZip N ks ls → AllInClass S C J m ss ks → AllInClass T D E n ss ls
    classes_there m n o no_part [] [] z c = tt
    classes_there m n o no_part [] (l ∷ ls) z c = absurd z
    classes_there m n o no_part (k ∷ ks) ls z c = absurd c
    classes_there m n o (part s ss) [] ls z c = absurd c
    classes_there m n o (part s ss) (k ∷ ks) [] z c = absurd z
    classes_there m n o (part s ss) (k ∷ ks) (l ∷ ls) z c = (class_there m n o s k l z.0 c.0, classes_there m n o ss ks ls z.1 c.1)

  pub stands_there : (m : Match S.Thing) (n : Match T.Thing) → Corresponds N m n → (p : Pattern) (t : S.Thing) (u : T.Thing) → N t u → StandsIn S C J m p t → StandsIn T D E n p u
  stands_there m n o p t u k c = (c.0, sym (side_over N m n o p) ∙ c.1, class_there m n o c.0 t u k c.2)

  pub settled_there : (assumed : List ℕ) (t : S.Thing) → Settled view assumed S C J t → (u : T.Thing) → N t u → Settled view assumed T D E u
  settled_there assumed t (Settled.by_node n _ c s) u k = Settled.by_node n u (class_node t u k n c) s
  settled_there assumed t (Settled.by_kids _ o ks c m r) u k =
      let w = class_has t u k o ks c in
      Settled.by_kids u o w.0 w.1 m (λ i l e. let z = zip_right N ks w.0 w.2 i l e in settled_there assumed z.0 (r i z.0 z.1) l z.2)

  pub not_free_there : (d : ℕ) (t : S.Thing) → NotFree view d S C J t → (u : T.Thing) → N t u → NotFree view d T D E u
  not_free_there d t (NotFree.by_node n _ c s) u k = NotFree.by_node n u (class_node t u k n c) s
  not_free_there d t (NotFree.by_kids _ o ks c m r) u k =
      let w = class_has t u k o ks c in
      NotFree.by_kids u o w.0 w.1 m
      (λ i l e. let z = zip_right N (open_kids d (shape o) ks) (open_kids d (shape o) w.0) (zip_open N d (shape o) ks w.0 w.2) i l e in not_free_there d z.0 (r i z.0 z.1) l z.2)
