-- One height on both sides: from the same classes, a round on each side and a closing lead to the same classes.
use Rattle.std.proofs.Common.{◌≡◌, ℕ, List, [], ◌∷◌, Some, ◌⊎◌, inl, inr, refl, sym, ◌∙◌, subst}
use Rattle.std.specs.List.{AllZip, AllByRecursion}
use Rattle.pv_pattern.specs.Patterns.{Pattern, Axiom}
use Rattle.pv_steps.specs.Facts.{View}
use Rattle.pv_heights.specs.Systems.{System, Joined, given, Relation, Subset}
use Rattle.pv_heights.specs.Filled.{Hole, kid, variable, Filled, at, of}
use Rattle.pv_heights.specs.Sides.{Match, thing_at, side, InClass, IsSide}
use Rattle.pv_heights.specs.Matches.{IsMatch, IsSaturated}
use Rattle.pv_heights.specs.Heights.{Corresponds}
use Rattle.pv_heights.specs.Searches.{IsWhole}
use Rattle.pv_heights.specs.SameClasses.{IsSystem, AreClosed, IsCongruence, StandsFor, Near, SameClasses}
use Rattle.pv_heights.specs.Rounds.{IsPart, Copy, itself, again, ClassCopy, IsChoice, ServesAsSide, AreSidesOf, IsMadePart, IsRoundOn}
use Rattle.pv_heights.proofs.Zips.{some_once, zip_of, zip_join, zip_flip, zip_map}
use Rattle.pv_heights.proofs.Both.{classes_flip, near_has, near_joins, near_there}
use Rattle.pv_heights.proofs.Sides.{zip_right, side_over, class_there}
use Rattle.pv_heights.proofs.Matches.{match_there}
use Rattle.pv_heights.proofs.Transfer.{close_congruence, transfer_all}
use Rattle.pv_heights.proofs.Round.{in_class_once, side_in_class, part_in_class, in_class_more, stand_more, stand_make, near_joined, side_near}

-- each member related to itself
pub zip_self : {A : Type 0} (P : A → Type 0) (R : A → A → Type 0) → ((a : A) → P a → R a a) → (xs : List A) → AllByRecursion P xs → AllZip R xs xs
zip_self P R f [] h = tt
zip_self P R f (x ∷ xs) h = (f x h.0, zip_self P R f xs h.1)

module _ {A B : Type 0} (R : A → B → Type 0) (m : Match A) (n : Match B) (o : Corresponds R m n) where
  pub thing_under : (x : Hole) (v : B) → thing_at n x ≡ Some v → (u : A) × (thing_at m x ≡ Some u) × R u v
  thing_under (kid i) v e = zip_right R m.kids n.kids o.kids i v e
  thing_under (variable j) v e = zip_right R m.vars n.vars o.vars j v e

pub over_self : {A : Type 0} (P : A → Type 0) (R : A → A → Type 0) → ((a : A) → P a → R a a) → (m : Match A) → AllByRecursion P m.kids → AllByRecursion P m.vars → Corresponds R m m
over_self P R f m k v = record { entry = refl; params = refl; kids = zip_self P R f m.kids k; vars = zip_self P R f m.vars v }

pub over_map : {A B : Type 0} (R Q : A → B → Type 0) → ((a : A) (b : B) → R a b → Q a b) → (m : Match A) (n : Match B) → Corresponds R m n → Corresponds Q m n
over_map R Q f m n o = record { entry = o.entry; params = o.params; kids = zip_map R Q f m.kids n.kids o.kids; vars = zip_map R Q f m.vars n.vars o.vars }

pub over_join : {A B D : Type 0} (R : A → B → Type 0) (Q : B → D → Type 0) (W : A → D → Type 0) → ((a : A) (b : B) (d : D) → R a b → Q b d → W a d)
    → (l : Match A) (m : Match B) (n : Match D) → Corresponds R l m → Corresponds Q m n → Corresponds W l n
over_join R Q W f l m n o p = record {
  entry = o.entry ∙ p.entry;
  params = o.params ∙ p.params;
  kids = zip_join R Q W f l.kids m.kids n.kids o.kids p.kids;
  vars = zip_join R Q W f l.vars m.vars n.vars o.vars p.vars;
}

pub over_turn : {A B : Type 0} (R : A → B → Type 0) (Q : B → A → Type 0) → ((a : A) (b : B) → R a b → Q b a) → (m : Match A) (n : Match B) → Corresponds R m n → Corresponds Q n m
over_turn R Q f m n o = record { entry = sym o.entry; params = sym o.params; kids = zip_flip R Q f m.kids n.kids o.kids; vars = zip_flip R Q f m.vars n.vars o.vars }

module _ (S : System) (C : Subset S) (J : Relation S) (CNext : Subset S) (keeps : (a : S.Thing) → C a → CNext a) where
  pub copy_of : (a u : S.Thing) → Copy S C J CNext a u → C u
  copy_of a u (itself _ _ c e) = c
  copy_of a u (again _ _ o ks ls ms c p d q l hs z) = d

  pub copy_in : (a u : S.Thing) → Copy S C J CNext a u → CNext a
  copy_in a u (itself _ _ c e) = subst CNext (sym e) (keeps u c)
  copy_in a u (again _ _ o ks ls ms c p d q l hs z) = c

  side_end : (m n : Match S.Thing) → IsChoice S C J CNext m n → (s : Filled) (a : S.Thing) → IsSide S CNext n s a → CNext a
  side_end m n o (at x) a h = let k = thing_under (ClassCopy S C J CNext) m n o x a h in copy_in a k.2.thing k.2.copy
  side_end m n o (of q ps) a h = h.1

  -- the sides of a match are among the later things
  pub end_in : (m n : Match S.Thing) → IsChoice S C J CNext m n → (p : Pattern) (a : S.Thing) → ServesAsSide S C J CNext m n p a → CNext a
  end_in m n o p a (inl h) = keeps a h.0
  end_in m n o p a (inr h) = side_end m n o h.0 a h.2

  module _ (view : View) (JNext : Relation S) (c_next : IsCongruence view S CNext JNext) (keeps_joins : (a b : S.Thing) → J a b → JNext a b) where
    pub copy_joined : (a u : S.Thing) → Copy S C J CNext a u → JNext a u
    copy_joined a u (itself _ _ c e) = subst (λ v. JNext v u) (sym e) (c_next.same u (keeps u c))
    copy_joined a u (again _ _ o ks ls ms c p d q l hs z) =
        c_next.kids a u o ks ls c (keeps u d) p q (zip_join JNext J JNext (λ x y w i j. c_next.chain x y w i (keeps_joins y w j)) ks ms ls (zip_of JNext ks ms l (λ j k m e f. copy_joined k m (hs j k m e f))) z)

    -- a copy of a thing of a class is joined to the class
    pub class_copy_joined : (x s : S.Thing) → ClassCopy S C J CNext x s → JNext x s
    class_copy_joined x s k = c_next.chain x k.thing s (keeps_joins x k.thing k.joins) (c_next.flip k.thing s (copy_joined s k.thing k.copy))

module _ {view : View} (whole : IsWhole view) {S T : System} (lS : IsSystem view S) (lT : IsSystem view T) {C : Subset S} {D : Subset T} {J : Relation S} {E : Relation T}
    (closed : AreClosed S C) (cJ : IsCongruence view S C J) (cE : IsCongruence view T D E) (h : SameClasses view S T C D J E) {assumed : List ℕ} {table : List Axiom}
    {CNext : Subset S} {K : Relation S} {DNext : Subset T} {L : Relation T}
    (sS : IsRoundOn view assumed table S C J CNext K) (sT : IsRoundOn view assumed table T D E DNext L) where
  abbrev ENext : T.Thing → T.Thing → Type 0
  ENext = Joined T DNext [] L []

  c_next : IsCongruence view T DNext ENext
  c_next = close_congruence view T DNext L (λ n e. sT.kept (T.node n) (cE.nodes n e))

  more : (a b : T.Thing) → E a b → ENext a b
  more a b e = given [] a b (sT.joined a b e)

  abbrev NearNow : S.Thing → T.Thing → Type 0
  NearNow = Near view S T D E

  abbrev NearNext : S.Thing → T.Thing → Type 0
  NearNext = Near view S T DNext ENext

  near_now : (a : S.Thing) → C a → (y : T.Thing) × D y × NearNow a y
  near_now = near_there whole lS lT closed cJ cE h

  joins_now : (a b : S.Thing) (y z : T.Thing) → NearNow a y → NearNow b z → J a b → E y z
  joins_now = near_joins whole lS lT closed cJ cE h

  shift_next : (a : S.Thing) (y z : T.Thing) → NearNext a y → ENext y z → NearNext a z
  shift_next = near_joined whole lS lT c_next

  near_more : (a : S.Thing) (y : T.Thing) → NearNow a y → NearNext a y
  near_more a y n = record { thing = n.thing; stands = stand_more view S T D E DNext ENext sT.kept more a n.thing n.stands; joins = more n.thing y n.joins }

  near_same : (a b : S.Thing) (y : T.Thing) → C a → J a b → NearNow b y → NearNow a y
  near_same a b y c j n =
      let w = near_now a c in
      record { thing = w.2.thing; stands = w.2.stands; joins = cE.chain w.2.thing w.0 y w.2.joins (joins_now a b w.0 y w.2 n j) }

  copy_near : (a u : S.Thing) → Copy S C J CNext a u → (y : T.Thing) → NearNow u y → NearNext a y
  copy_near a u (itself _ _ c e) y n = near_more a y (subst (λ v. NearNow v y) (sym e) n)
  copy_near a u (again _ _ o ks ls ms c p d q l hs z) y n =
      let v = near_has whole lS lT closed cJ cE h u o ls d q in
      let Mid : S.Thing → S.Thing → Type 0 = λ k m. C m × ((w : T.Thing) → NearNow m w → NearNext k w) in
      let Far : S.Thing → T.Thing → Type 0 = λ m w. (i : S.Thing) × J m i × NearNow i w in
      let z1 : AllZip Mid ks ms = zip_of Mid ks ms l (λ j k m e f. (copy_of S C J CNext sS.kept k m (hs j k m e f), λ w o. copy_near k m (hs j k m e f) w o)) in
      let z2 : AllZip Far ms v.1 = zip_join J NearNow Far (λ m i w e f. (i, e, f)) ms ls v.1 z v.5 in
      let z3 : AllZip NearNext ks v.1 = zip_join Mid Far NearNext (λ k m w e f. e.1 w (near_same m f.0 w e.0 f.1 f.2)) ks ms v.1 z1 z2 in
      shift_next a v.0 y (stand_make whole lS lT c_next a v.0 o ks v.1 p (sT.kept v.0 v.2) v.4 z3) (more v.0 y (joins_now u u v.0 y v.3 n (cJ.same u d)))

  -- the match on the other side, its sides there, and what is near the choice
  pub record Other (m n : Match S.Thing) : Type 0 where
    pub match : Match T.Thing
    pub over : Corresponds NearNow m match
    pub near : Corresponds NearNext n match
    pub kids : AllByRecursion D match.kids
    pub vars : AllByRecursion D match.vars
    pub left : T.Thing
    pub right : T.Thing
    pub joined : L left right
    pub sides : AreSidesOf T D E DNext match left right

  other : (m n : Match S.Thing) → IsMatch view assumed table S C J m → IsChoice S C J CNext m n → Other m n
  other m n i s =
      let k = match_there whole lS lT closed cJ cE h assumed table m i in
      let f = sT.full k.0 k.1 in
      let back : Corresponds (λ c x. ClassCopy S C J CNext x c) n m = over_turn (ClassCopy S C J CNext) (λ c x. ClassCopy S C J CNext x c) (λ x c r. r) m n s in
      record {
        match = k.0;
        over = k.2;
        kids = k.1.kids;
        vars = k.1.vars;
        left = f.0;
        right = f.1;
        joined = f.3;
        sides = f.2;
        near = over_join (λ c x. ClassCopy S C J CNext x c) NearNow NearNext (λ c x y r w. copy_near c r.thing r.copy y (near_same r.thing x y r.is (cJ.flip r.thing x r.joins) w)) n m k.0 back k.2;
      }

  -- where a side stands, over things near the choice
  pub record SideClass (m n : Match S.Thing) (o : Other m n) (s : Filled) (y : T.Thing) : Type 0 where
    pub things : Match T.Thing
    pub near : Corresponds NearNext n things
    pub joined : Corresponds ENext o.match things
    pub stands : InClass T DNext ENext things s y

  -- .. for a pattern
  abbrev PatternClass : (m n : Match S.Thing) → Other m n → Pattern → T.Thing → Type 0
  PatternClass m n o p y = (s : Filled) × (side m p ≡ Some s) × SideClass m n o s y

  chosen_joined : (m n : Match S.Thing) (o : Other m n) → Corresponds ENext o.match o.sides.chosen
  chosen_joined m n o = over_map (ClassCopy T D E DNext) ENext (class_copy_joined T D E DNext sT.kept view ENext c_next more) o.match o.sides.chosen o.sides.is_chosen

  choice_in : (m n : Match S.Thing) (o : Other m n) (x : Hole) (u : T.Thing) → thing_at o.sides.chosen x ≡ Some u → DNext u
  choice_in m n o x u e = let k = thing_under (ClassCopy T D E DNext) o.match o.sides.chosen o.sides.is_chosen x u e in copy_in T D E DNext sT.kept u k.2.thing k.2.copy

  pattern_class : (m n : Match S.Thing) (o : Other m n) (p : Pattern) (y : T.Thing) → ServesAsSide T D E DNext o.match o.sides.chosen p y → PatternClass m n o p y
  pattern_class m n o p y (inl k) = (
    k.1.0,
    side_over NearNow m o.match o.over p ∙ k.1.1,
    record {
      things = o.match;
      near = o.near;
      joined = over_self D ENext (λ a d. c_next.same a (sT.kept a d)) o.match o.kids o.vars;
      stands = in_class_more T D E DNext ENext sT.kept more o.match k.1.0 y k.1.2;
    },
  )
  pattern_class m n o p y (inr k) = (
    k.0,
    side_over NearNow m o.match o.over p ∙ (side_over (ClassCopy T D E DNext) o.match o.sides.chosen o.sides.is_chosen p ∙ k.1),
    record {
      things = o.sides.chosen;
      joined = chosen_joined m n o;
      near = over_join NearNext ENext NearNext (λ a y z r e. shift_next a y z r e) n o.match o.sides.chosen o.near (chosen_joined m n o);
      stands = side_in_class view T DNext ENext c_next o.sides.chosen (choice_in m n o) k.0 y k.2;
    },
  )

  left_class : (m n : Match S.Thing) (o : Other m n) → PatternClass m n o m.entry.left o.left
  left_class m n o = pattern_class m n o m.entry.left o.left (subst (λ (e : Axiom). ServesAsSide T D E DNext o.match o.sides.chosen e.left o.left) (sym o.over.entry) o.sides.left)

  right_class : (m n : Match S.Thing) (o : Other m n) → PatternClass m n o m.entry.right o.right
  right_class m n o = pattern_class m n o m.entry.right o.right (subst (λ (e : Axiom). ServesAsSide T D E DNext o.match o.sides.chosen e.right o.right) (sym o.over.entry) o.sides.right)

  part_near : (m n : Match S.Thing) (o : Other m n) (p : Pattern) (z : T.Thing) → PatternClass m n o p z → (whole_ inner : Filled) → side m p ≡ Some whole_ → IsPart inner whole_ → (a : S.Thing) → IsSide S CNext n inner a → (y : T.Thing) × NearNext a y
  part_near m n o p z l whole_ inner e i a s =
      let st = subst (λ w. InClass T DNext ENext l.2.things w z) (some_once (sym l.1 ∙ e)) l.2.stands in
      let y = part_in_class T DNext ENext l.2.things inner whole_ i z st in
      (y.0, side_near whole lS lT c_next CNext n l.2.things l.2.near inner a y.0 s y.1)

  made_near : (a : S.Thing) (m : Match S.Thing) → IsMatch view assumed table S C J m → IsMadePart S C J CNext m a → (y : T.Thing) × NearNext a y
  made_near a m i k = go k.is_whole
    where
      o : Other m k.chosen
      o = other m k.chosen i k.is_chosen

      go : (side m m.entry.left ≡ Some k.whole) ⊎ (side m m.entry.right ≡ Some k.whole) → (y : T.Thing) × NearNext a y
      go (inl e) = part_near m k.chosen o m.entry.left o.left (left_class m k.chosen o) k.whole k.inner e k.is_inner a k.is
      go (inr e) = part_near m k.chosen o m.entry.right o.right (right_class m k.chosen o) k.whole k.inner e k.is_inner a k.is

  pub there_next : (a : S.Thing) → CNext a → (y : T.Thing) × StandsFor view S T DNext ENext a y
  there_next a p = go (sS.made a p)
    where
      go : C a ⊎ ((m : Match S.Thing) × IsMatch view assumed table S C J m × IsMadePart S C J CNext m a) ⊎ ((u : S.Thing) × Copy S C J CNext a u) → (y : T.Thing) × StandsFor view S T DNext ENext a y
      go (inl c) = let w = near_now a c in let n = near_more a w.0 w.2 in (n.thing, n.stands)
      go (inr (inl m)) = let n = made_near a m.0 m.1 m.2 in (n.1.thing, n.1.stands)
      go (inr (inr k)) =
          let w = near_now k.0 (copy_of S C J CNext sS.kept a k.0 k.1) in
          let n = copy_near a k.0 k.1 w.0 w.2 in (n.thing, n.stands)

  abbrev Start : S.Thing → S.Thing → Type 0
  Start a b = (u : T.Thing) × (v : T.Thing) × StandsFor view S T DNext ENext a u × StandsFor view S T DNext ENext b v × ENext u v

  ends : (a b : S.Thing) (y z : T.Thing) → NearNext a y → NearNext b z → ENext y z → Start a b
  ends a b y z m n e = (m.thing, n.thing, m.stands, n.stands, c_next.chain m.thing y n.thing m.joins (c_next.chain y z n.thing e (c_next.flip z n.thing n.joins)))

  end_near : (m n : Match S.Thing) (i : IsChoice S C J CNext m n) (o : Other m n) (p : Pattern) (a : S.Thing) (y : T.Thing) → PatternClass m n o p y → ServesAsSide S C J CNext m n p a → NearNext a y
  end_near m n i o p a y l (inl k) =
      let w = near_now a k.0 in
      let s = class_there whole lS lT closed cJ cE h m o.match o.over k.1.0 a w.0 w.2 k.1.2 in
      let t = subst (λ v. InClass T D E o.match v w.0) (some_once (sym k.1.1 ∙ l.1)) s in
      shift_next a w.0 y (near_more a w.0 w.2) (in_class_once view T DNext ENext c_next o.match l.2.things l.2.joined l.0 w.0 y (in_class_more T D E DNext ENext sT.kept more o.match l.0 w.0 t) l.2.stands)
  end_near m n i o p a y l (inr k) =
      side_near whole lS lT c_next CNext n l.2.things l.2.near l.0 a y
      (subst (λ v. IsSide S CNext n v a) (some_once (sym k.1 ∙ (sym (side_over (ClassCopy S C J CNext) m n i p) ∙ l.1))) k.2) l.2.stands

  pub start_next : (a b : S.Thing) → K a b → Start a b
  start_next a b k = go (sS.given a b k)
    where
      go : (C a × C b × J a b) ⊎ ((m : Match S.Thing) × IsMatch view assumed table S C J m × AreSidesOf S C J CNext m a b) → Start a b
      go (inl j) =
          let y = near_now a j.0 in let z = near_now b j.1 in
          ends a b y.0 z.0 (near_more a y.0 y.2) (near_more b z.0 z.2) (more y.0 z.0 (joins_now a b y.0 z.0 y.2 z.2 j.2))
      go (inr m) =
          let o = other m.0 m.2.chosen m.1 m.2.is_chosen in
          ends a b o.left o.right
          (end_near m.0 m.2.chosen m.2.is_chosen o m.0.entry.left a o.left (left_class m.0 m.2.chosen o) m.2.left)
          (end_near m.0 m.2.chosen m.2.is_chosen o m.0.entry.right b o.right (right_class m.0 m.2.chosen o) m.2.right)
          (given [] o.left o.right o.joined)

  pub joins2 : (a b : S.Thing) (y z : T.Thing) → Joined S CNext [] K [] a b → StandsFor view S T DNext ENext a y → StandsFor view S T DNext ENext b z → ENext y z
  joins2 a b y z j s t = transfer_all view whole S T lS lT CNext K DNext L c_next there_next start_next a b y z j s t

-- a round on both sides, each followed by a closing with all inductions
pub one_height : {view : View} (whole : IsWhole view) {S T : System} (lS : IsSystem view S) (lT : IsSystem view T) {C : Subset S} {D : Subset T} {J : Relation S} {E : Relation T}
    → AreClosed S C → AreClosed T D → IsCongruence view S C J → IsCongruence view T D E → SameClasses view S T C D J E → {assumed : List ℕ} {table : List Axiom}
    → {CNext : Subset S} {K : Relation S} {DNext : Subset T} {L : Relation T} → IsRoundOn view assumed table S C J CNext K → IsRoundOn view assumed table T D E DNext L
    → SameClasses view S T CNext DNext (Joined S CNext [] K []) (Joined T DNext [] L [])
one_height whole lS lT closed also cJ cE h sS sT =
    let b = classes_flip h in
    record {
      there = there_next whole lS lT closed cJ cE h sS sT;
      back = there_next whole lT lS also cE cJ b sT sS;
      joins = joins2 whole lS lT closed cJ cE h sS sT;
      joins_back = joins2 whole lT lS also cE cJ b sT sS;
    }

-- where nothing is left to join, nothing need be added: the things and classes stay
pub saturated_round : (view : View) (S : System) (C : Subset S) (J : Relation S) (assumed : List ℕ) (table : List Axiom) → IsCongruence view S C J → ((a b : S.Thing) → J a b → C a × C b)
    → IsSaturated view assumed table S C J → IsRoundOn view assumed table S C J C J
saturated_round view S C J assumed table c carried still = record {
  kept = λ a k. k;
  made = λ a k. inl k;
  joined = λ a b k. k;
  full = λ m k. (
    k.at_,
    k.at_,
    record {
      chosen = m;
      is_chosen = over_self C (ClassCopy S C J C) (λ a d. record { thing = a; is = d; joins = c.same a d; copy = itself a a d refl }) m k.kids k.vars;
      left = inl (k.is, k.stands);
      right = inl (k.is, still m k.at_ k k.is k.stands);
    },
    c.same k.at_ k.is,
  );
  given = λ a b k. let i = carried a b k in inl (i.0, i.1, k);
}
