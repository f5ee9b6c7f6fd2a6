-- An expansion keeps the instances of axioms and the uses of lemmas.
use Rattle.std.specs.Prelude.{◌≡◌, ℕ, suc, pos, Bool, true, false, not, ◌&&◌, List, [], ◌∷◌, map, length, Some, slice_get, ◌==◌, refl}
use Rattle.std.specs.List.{AllByRecursion}
use Rattle.std.proofs.Common.{inl, inr, sym, ap, ◌∙◌, subst}
use Rattle.std.proofs.lemmas.List.{map-append, length-map}
use Rattle.pv_value.specs.declared.descriptor.JType.{JType}
use Rattle.pv_value.specs.declared.descriptor.JType.TheVariants as jtype
use Rattle.pv_value.specs.declared.operation.ScalarOp.TheVariants.{Iand, I2b, I2c, I2s}
use Rattle.pv_value.specs.declared.number.Num.{Num}
use Rattle.pv_graph.specs.declared.node.Op.{Op}
use Rattle.pv_graph.specs.declared.node.Op.TheVariants as op
use Rattle.pv_graph.specs.Ops.{is_variable}
use Rattle.pv_graph.specs.Walks.{In, IsSettled}
use Rattle.pv_graph.specs.Graphs.{Graph, form_at}
use Rattle.pv_pattern.specs.Patterns.{Head, fixed, theta_d, eval_d, pass_d, shift_d, getstatic, putstatic, getfield, putfield, load, store, Each, bare, shifted, evaluated, Pattern, var, constant, fold, narrowed, over, over_each, Patterns, none, first, Side, settled, not_free, symbols_differ, kinds_differ, not_byte, constants_differ, Axiom}
use Rattle.pv_pattern.specs.Numbers.{op_number}
use Rattle.pv_pattern.specs.Instances.{Names, constant_of, IsConstantAt, Narrows, IsEach, Stands, StandAll, Holds, HoldsForAll, head_op}
use Rattle.pv_steps.specs.declared.step.Lemma.{Lemma}
use Rattle.pv_axioms.specs.Entries.{axioms, Instance, OpenInstance}
use Rattle.pv_lemmas.specs.Lemmas.{IsAccepted, IsUnder, variable, operation, IsUse, Uses}
use Rattle.pv_lemmas.proofs.Lists.{get_map, get_mapped, zip_map, zip_left}
use Rattle.pv_lemmas.proofs.Expanding.{Expands}
use Rattle.pv_lemmas.proofs.Kept.{free_back, settled_kept}

-- ---- patterns have no variables of lemmas

-- the operation is no variable of a lemma
abbrev plain_head : Head → Bool
plain_head (fixed o) = not (is_variable o)
plain_head h = true

abbrev mutual
  -- no operation of the pattern is one; 90 is the number of variables as operations
  is_plain : Pattern → Bool
  is_plain (over h ps) = plain_head h && are_plain ps
  is_plain (narrowed t p) = is_plain p
  is_plain (over_each n x) = not (n == 90)
  is_plain p = true

  are_plain : Patterns → Bool
  are_plain none = true
  are_plain (first p ps) = is_plain p && are_plain ps

-- neither side has one
abbrev plain_axiom : Axiom → Bool
plain_axiom a = is_plain a.left && is_plain a.right

abbrev all_plain : List Axiom → Bool
all_plain [] = true
all_plain (a ∷ table) = plain_axiom a && all_plain table

and_parts : (t u : Bool) → (t && u) ≡ true → (t ≡ true) × (u ≡ true)
and_parts true u e = (refl, e)
and_parts false u e = absurd (cc)

not_true : (t : Bool) → not t ≡ true → t ≡ false
not_true true e = absurd (cc)
not_true false e = refl

-- an entry of a table that passes the test does so
entry_plain : (table : List Axiom) → all_plain table ≡ true → (a : Axiom) → In table a → plain_axiom a ≡ true
entry_plain [] test a m = absurd m
entry_plain (b ∷ table) test a (inl e) = ap plain_axiom (sym e) ∙ (and_parts (plain_axiom b) (all_plain table) test).0
entry_plain (b ∷ table) test a (inr m) = entry_plain table (and_parts (plain_axiom b) (all_plain table) test).1 a m

-- such a head stands at no variable
head_plain : (m : Names) (x : Head) → plain_head x ≡ true → is_variable (head_op m x) ≡ false
head_plain m (fixed o) t = not_true (is_variable o) t
head_plain m theta_d t = refl
head_plain m eval_d t = refl
head_plain m pass_d t = refl
head_plain m shift_d t = refl
head_plain m (getstatic s) t = refl
head_plain m (putstatic s) t = refl
head_plain m (getfield s) t = refl
head_plain m (putfield s) t = refl
head_plain m (load k) t = refl
head_plain m (store k) t = refl

-- nor does such a family
family_plain : (o : Op) (n : ℕ) → op_number o ≡ n → not (n == 90) ≡ true → is_variable o ≡ false
family_plain (op.Var j s) n e t = let z : not (90 == 90) ≡ true = subst (λ (k : ℕ). not (k == 90) ≡ true) (sym e) t in absurd (cc)
family_plain o n e t = refl

-- nor does a constant
constant_plain : (o : Op) (c : Num) → constant_of o ≡ Some c → is_variable o ≡ false
constant_plain (op.Var j s) c e = absurd (cc)
constant_plain o c e = refl

-- ---- instances

-- the names of an axiom in the outer graph
abbrev names_for : (ℕ → ℕ) → Names → Names
names_for f m = record { depth = m.depth; symbols = m.symbols; kinds = m.kinds; constants = m.constants; op_ = m.op_; kids = map f m.kids; vars = map f m.vars }

module _ (inner outer : Graph) (h : ℕ → ℕ) (e : Expands inner outer h) (m : Names) where
  -- a constant is one in the outer graph
  constant_kept : (n : ℕ) (c : Num) → IsConstantAt (form_at inner.nodes) n c → IsConstantAt (form_at outer.nodes) (h n) c
  constant_kept n c s = (s.0, e.there n s.0 [] s.1 (constant_plain s.0 c s.2), s.2)

  -- a narrowed value
  narrows_kept : (y : JType) (P Q : ℕ → Type 0) → ((n : ℕ) → P n → Q (h n)) → (n : ℕ) → Narrows (form_at inner.nodes) y P n → Narrows (form_at outer.nodes) y Q (h n)
  narrows_kept jtype.Z P Q go n s = (h s.0, h s.1, e.there n (op.Scalar Iand) (s.0 ∷ s.1 ∷ []) s.2 refl, go s.0 s.3, e.there s.1 (op.Int (pos 1)) [] s.4 refl)
  narrows_kept jtype.B P Q go n s = (h s.0, e.there n (op.Scalar I2b) (s.0 ∷ []) s.1 refl, go s.0 s.2)
  narrows_kept jtype.C P Q go n s = (h s.0, e.there n (op.Scalar I2c) (s.0 ∷ []) s.1 refl, go s.0 s.2)
  narrows_kept jtype.S P Q go n s = (h s.0, e.there n (op.Scalar I2s) (s.0 ∷ []) s.1 refl, go s.0 s.2)
  narrows_kept jtype.I P Q go n s = go n s
  narrows_kept jtype.J P Q go n s = go n s
  narrows_kept jtype.F P Q go n s = go n s
  narrows_kept jtype.D P Q go n s = go n s
  narrows_kept jtype.A P Q go n s = go n s

  -- a kid of a family
  each_kept : (x : Each) (k n : ℕ) → IsEach (form_at inner.nodes) m x k n → IsEach (form_at outer.nodes) (names_for h m) x (h k) (h n)
  each_kept bare k n s = ap h s
  each_kept shifted k n s = e.there n (op.Shift m.depth) (k ∷ []) s refl
  each_kept (evaluated j) k n s = (h s.0, get_map h m.vars j s.0 s.1, e.there n (op.Eval m.depth) (k ∷ s.0 ∷ []) s.2 refl)

  mutual
    -- a pattern stands at the node in the outer graph
    stands_kept : (p : Pattern) → is_plain p ≡ true → (n : ℕ) → Stands (form_at inner.nodes) m p n → Stands (form_at outer.nodes) (names_for h m) p (h n)
    stands_kept (var j) t n s = get_map h m.vars j n s
    stands_kept (constant j) t n s = (get_map h m.vars j n s.0, constant_kept n (m.constants j) s.1)
    stands_kept (fold o atoms) t n s = (s.0, s.1, constant_kept n s.0 s.2)
    stands_kept (narrowed x p) t n s = (s.0, s.1, narrows_kept s.0 (Stands (form_at inner.nodes) m p) (Stands (form_at outer.nodes) (names_for h m) p) (λ q z. stands_kept p t q z) n s.2)
    stands_kept (over x ps) t n s =
        let parts = and_parts (plain_head x) (are_plain ps) t in
        (map h s.0, e.there n (head_op m x) s.0 s.1 (head_plain m x parts.0), all_kept ps parts.1 s.0 s.2)
    stands_kept (over_each which x) t n s =
        (map h s.0, e.there n m.op_ s.0 s.1 (family_plain m.op_ which s.2 t), s.2, zip_map (IsEach (form_at inner.nodes) m x) (IsEach (form_at outer.nodes) (names_for h m) x) h h (λ a b z. each_kept x a b z) m.kids s.0 s.3)

    all_kept : (ps : Patterns) → are_plain ps ≡ true → (ks : List ℕ) → StandAll (form_at inner.nodes) m ps ks → StandAll (form_at outer.nodes) (names_for h m) ps (map h ks)
    all_kept none t [] s = tt
    all_kept none t (n ∷ ks) s = absurd s
    all_kept (first p ps) t [] s = absurd s
    all_kept (first p ps) t (n ∷ ks) s = let parts = and_parts (is_plain p) (are_plain ps) t in (stands_kept p parts.0 n s.0, all_kept ps parts.1 ks s.1)

module _ (inner outer : Graph) (h : ℕ → ℕ) (e : Expands inner outer h) (vars assumed : List ℕ) (stand : (p : ℕ) → In vars p → IsSettled (form_at outer.nodes) assumed (h p)) where
  -- a condition that holds whatever stands for the variables holds in the outer graph
  side_kept : (m : Names) (s : Side) → Holds inner vars m s → HoldsForAll inner m s → Holds outer assumed (names_for h m) s
  side_kept m (settled j) is all = (h is.0, get_map h m.vars j is.0 is.1, settled_kept inner outer h e vars assumed stand is.0 is.2)
  side_kept m (not_free j) is all =
      (h is.0, get_map h m.vars j is.0 is.1, λ z. elim (free_back inner outer h e m.depth (h is.0) z is.0 refl) [ inl free ↦ is.2 free | inr meets ↦ all is.0 is.1 meets ])
  side_kept m (symbols_differ s t) is all = is
  side_kept m (kinds_differ s t) is all = is
  side_kept m (not_byte s) is all = is
  side_kept m (constants_differ i j) is all = is

  sides_kept : (m : Names) (ss : List Side) → AllByRecursion (Holds inner vars m) ss → AllByRecursion (HoldsForAll inner m) ss → AllByRecursion (Holds outer assumed (names_for h m)) ss
  sides_kept m [] is all = tt
  sides_kept m (s ∷ ss) is all = (side_kept m s is.0 all.0, sides_kept m ss is.1 all.1)

  -- an instance whatever stands for the variables is one in the outer graph
  pub instance_kept : (n : ℕ) (nodes : List ℕ) (l r : ℕ) → OpenInstance inner vars n nodes l r → Instance outer assumed n (map h nodes) (h l) (h r)
  instance_kept n nodes l r i =
      let is = i.2.instance_ in
      let m = is.names in
      let parts = and_parts (is_plain i.0.left) (is_plain i.0.right) (entry_plain axioms refl i.0 i.1.entry) in (
        i.0,
        i.1,
        record {
          names = names_for h m;
          are = ap (map h) is.are ∙ map-append h m.kids m.vars;
          long = length-map m.vars h ∙ is.long;
          alone = λ z. ap (map h) (is.alone z);
          left = stands_kept inner outer h e m i.0.left parts.0 l is.left;
          right = stands_kept inner outer h e m i.0.right parts.1 r is.right;
          sides = sides_kept m i.0.sides is.sides i.2.for_all;
        },
      )

  -- ---- uses

  -- a node under those of a use
  under_kept : (lemma : Graph) (nodes : List ℕ) (p n : ℕ) → IsUnder lemma nodes inner p n → IsUnder lemma (map h nodes) outer p (h n)
  under_kept lemma nodes p n (variable _ _ j s is at) = variable p (h n) j s is (get_map h nodes j n at)
  under_kept lemma nodes p n (operation _ _ o ps ns plain_ f v l kids) =
      operation p (h n) o ps (map h ns) plain_ f (e.there n o ns v plain_) (l ∙ sym (length-map ns h))
      (λ i k m a b. let x = get_mapped h ns i m b in subst (λ (q : ℕ). IsUnder lemma (map h nodes) outer k q) x.2 (under_kept lemma nodes k x.0 (kids i k x.0 a x.1)))

  -- a use of one lemma
  use_kept : (lemma : Lemma) (nodes : List ℕ) (a b : ℕ) → IsUse lemma inner vars nodes a b → IsUse lemma outer assumed (map h nodes) (h a) (h b)
  use_kept lemma nodes a b u = record {
    graph = u.graph;
    after = u.after;
    sorts = zip_left (λ k s. slice_get inner.sorts k ≡ Some s) (λ k s. slice_get outer.sorts k ≡ Some s) h (λ k s z. e.sorts k s z) nodes (map (λ v. v.sort) lemma.vars) u.sorts;
    settled = λ j n i at. (let x = get_mapped h nodes j n at in
        subst (λ (q : ℕ). IsSettled (form_at outer.nodes) assumed q) x.2 (settled_kept inner outer h e vars assumed stand x.0 (u.settled j x.0 i x.1)));
    left_ = under_kept u.graph nodes lemma.left a u.left_;
    right_ = under_kept u.graph nodes lemma.right b u.right_;
  }

  -- a use of a lemma inside another is one in the outer graph
  pub uses_kept : (lemmas : List Lemma) (n : ℕ) (nodes : List ℕ) (a b : ℕ) → Uses lemmas inner vars n nodes a b → Uses lemmas outer assumed n (map h nodes) (h a) (h b)
  uses_kept [] n nodes a b u = absurd u
  uses_kept (lemma ∷ before) n nodes a b u = go (n == suc (length before)) (uses_kept before n nodes a b) u
    where
      go : (t : Bool) → (Uses before inner vars n nodes a b → Uses before outer assumed n (map h nodes) (h a) (h b)) → (elim t as (λ (z : Bool). Type 0) [ true ↦ IsAccepted (Uses before) lemma × IsUse lemma inner vars nodes a b | false ↦ Uses before inner vars n nodes a b ])
          → (elim t as (λ (z : Bool). Type 0) [ true ↦ IsAccepted (Uses before) lemma × IsUse lemma outer assumed (map h nodes) (h a) (h b) | false ↦ Uses before outer assumed n (map h nodes) (h a) (h b) ])
      go true later z = (z.0, use_kept lemma nodes a b z.1)
      go false later z = later z
