-- Terms over numbers, and the laws of axioms between them from equations on whole numbers.
use Rattle.std.specs.Prelude.{◌≡◌, ◌⊎◌, ◌↔◌, ℕ, zero, suc, ◌<◌, ℤ, pos, Bool, true, false, ◌&&◌, ◌||◌, ◌==◌, List, [], ◌∷◌, map, length, Option, Some, None, slice_get, FitsSigned, refl}
use Rattle.std.specs.List.{AllZip, AllByRecursion}
use Rattle.std.proofs.Common.{inl, inr, sym, ap, ◌∙◌, subst, arith, lit<}
use Rattle.std.proofs.lemmas.Option.{slice_get_within, same_Some}
use Rattle.std.proofs.lemmas.Bool.Decides.{nat_tests}
use Rattle.pv_value.specs.Spelled.{bind}
use Rattle.pv_value.specs.Operations.{Word, int, long, width_of, takes, gives, scalar_of}
use Rattle.pv_value.specs.declared.operation.ScalarOp.{ScalarOp}
use Rattle.pv_value.specs.declared.number.Num.{Num}
use Rattle.pv_value.specs.declared.number.Num.TheVariants as num
use Rattle.pv_value.specs.declared.world.World.{World}
use Rattle.pv_value.specs.declared.outcome.Input.{Input}
use Rattle.pv_value.specs.declared.outcome.Val.{Val}
use Rattle.pv_value.specs.declared.outcome.Val.TheVariants as val
use Rattle.pv_graph.specs.declared.node.Op.{Op}
use Rattle.pv_graph.specs.declared.node.Op.TheVariants as op
use Rattle.pv_graph.specs.declared.node.OpSort.{OpSort}
use Rattle.pv_graph.specs.Ops.{word_sort}
use Rattle.pv_graph.specs.Forms.{Form, form}
use Rattle.pv_denote.specs.Denote.{Index, strict, Value, operand, num_of, scalar_on, scalar_value}
use Rattle.pv_denote.specs.Typed.{IsOf}
use Rattle.pv_graph.specs.Walks.{IsSettled}
use Rattle.pv_graph.specs.Graphs.{Graph, form_at}
use Rattle.pv_denote.proofs.Cited.{value_once, den_makes, sort_law}
use Rattle.pv_graph.proofs.Cited.{HasSortAt, exactly_are}
use Rattle.pv_pattern.specs.Patterns.{Atom, number, named, fixed, Pattern, var, constant, fold, over, none, first, Side, settled, not_free, symbols_differ, kinds_differ, not_byte, constants_differ, variables}
use Rattle.pv_pattern.specs.Instances.{Names, constant_of, IsConstantAt, atom_of, folded, Stands, Holds}
use Rattle.pv_pattern.specs.Laws.{Setting, Law}
use Rattle.pv_pattern.proofs.Cited.{none_at, one_at, two_at, same_at, kids_sorted, settled_has, plain_is}
use Rattle.pv_scalar.specs.Table.{rule}

-- a number or a variable for constants, in a fold
pub data Lit : Type 0 where
  l_ : Word → ℤ → Lit
  c_ : ℕ → Lit

pub data Term : Type 0 where
  v_ : ℕ → Term
  k_ : ℕ → Term
  lit : Word → ℤ → Term
  one : ScalarOp → Term → Term
  two : ScalarOp → Term → Term → Term
  fold1 : ScalarOp → Lit → Term
  fold2 : ScalarOp → Lit → Lit → Term

abbrev pub atom : Lit → Atom
atom (l_ s n) = number (num_of s n)
atom (c_ j) = named j

abbrev pub const_op : Word → ℤ → Op
const_op int n = op.Int n
const_op long n = op.Long n

abbrev pub pattern_of : Term → Pattern
pattern_of (v_ j) = var j
pattern_of (k_ j) = constant j
pattern_of (lit s n) = over (fixed (const_op s n)) none
pattern_of (one o t) = over (fixed (op.Scalar o)) (first (pattern_of t) none)
pattern_of (two o t u) = over (fixed (op.Scalar o)) (first (pattern_of t) (first (pattern_of u) none))
pattern_of (fold1 o a) = fold o (atom a ∷ [])
pattern_of (fold2 o a b) = fold o (atom a ∷ atom b ∷ [])

-- its number, over those of the variables
abbrev pub lit_val : (ℕ → ℤ) → Lit → ℤ
lit_val e (l_ s n) = n
lit_val e (c_ j) = e j

abbrev pub val_of : (ℕ → ℤ) → Term → ℤ
val_of e (v_ j) = e j
val_of e (k_ j) = e j
val_of e (lit s n) = n
val_of e (one o t) = scalar_of o (val_of e t) (pos 0)
val_of e (two o t u) = scalar_of o (val_of e t) (val_of e u)
val_of e (fold1 o a) = scalar_of o (lit_val e a) (pos 0)
val_of e (fold2 o a b) = scalar_of o (lit_val e a) (lit_val e b)

-- ---- sizes

abbrev pub same_size : Word → Word → Bool
same_size int int = true
same_size long long = true
same_size s t = false

same_size_is : (s t : Word) → same_size s t ≡ true → s ≡ t
same_size_is int int e = refl
same_size_is long long e = refl
same_size_is int long e = absurd (cc)
same_size_is long int e = absurd (cc)

abbrev pub lit_size : (ℕ → Word) → Lit → Word
lit_size z (l_ s n) = s
lit_size z (c_ j) = z j

abbrev pub size_of : (ℕ → Word) → Term → Word
size_of z (v_ j) = z j
size_of z (k_ j) = z j
size_of z (lit s n) = s
size_of z (one o t) = gives o
size_of z (two o t u) = gives o
size_of z (fold1 o a) = gives o
size_of z (fold2 o a b) = gives o

abbrev pub takes_one : List Word → Word → Bool
takes_one (a ∷ []) s = same_size a s
takes_one ss s = false

abbrev pub takes_two : List Word → Word → Word → Bool
takes_two (a ∷ b ∷ []) s t = same_size a s && same_size b t
takes_two ss s t = false

abbrev pub fits : (ℕ → Word) → Term → Bool
fits z (v_ j) = true
fits z (k_ j) = true
fits z (lit s n) = true
fits z (one o t) = takes_one (takes o) (size_of z t) && fits z t
fits z (two o t u) = takes_two (takes o) (size_of z t) (size_of z u) && (fits z t && fits z u)
fits z (fold1 o a) = takes_one (takes o) (lit_size z a)
fits z (fold2 o a b) = takes_two (takes o) (lit_size z a) (lit_size z b)

pub both_true : (a b : Bool) → (a && b) ≡ true → (a ≡ true) × (b ≡ true)
both_true true b e = (refl, e)
both_true false b e = absurd (cc)

either_true : (a b : Bool) → (a || b) ≡ true → (a ≡ true) ⊎ (b ≡ true)
either_true true b e = inl refl
either_true false b e = inr e

one_is : (ss : List Word) (s : Word) → takes_one ss s ≡ true → ss ≡ s ∷ []
one_is [] s e = absurd (cc)
one_is (a ∷ []) s e = ap (λ (q : Word). q ∷ []) (same_size_is a s e)
one_is (a ∷ b ∷ ss) s e = absurd (cc)

two_is : (ss : List Word) (s t : Word) → takes_two ss s t ≡ true → ss ≡ s ∷ t ∷ []
two_is [] s t e = absurd (cc)
two_is (a ∷ []) s t e = absurd (cc)
two_is (a ∷ b ∷ []) s t e =
    let h = both_true (same_size a s) (same_size b t) e in
    let p = same_size_is a s h.0 in
    let q = same_size_is b t h.1 in
    cc
two_is (a ∷ b ∷ d ∷ ss) s t e = absurd (cc)

-- ---- which variables stand in a term

abbrev pub has_v : ℕ → Term → Bool
has_v j (v_ i) = j == i
has_v j (k_ i) = j == i
has_v j (lit s n) = false
has_v j (one o t) = has_v j t
has_v j (two o t u) = has_v j t || has_v j u
has_v j (fold1 o a) = false
has_v j (fold2 o a b) = false

abbrev pub has_k : ℕ → Term → Bool
has_k j (v_ i) = false
has_k j (k_ i) = j == i
has_k j (lit s n) = false
has_k j (one o t) = has_k j t
has_k j (two o t u) = has_k j t || has_k j u
has_k j (fold1 o a) = false
has_k j (fold2 o a b) = false

abbrev pub lit_known : (ℕ → Bool) → Lit → Bool
lit_known f (l_ s n) = true
lit_known f (c_ j) = f j

-- the constants in folds are among these
abbrev pub known : (ℕ → Bool) → Term → Bool
known f (v_ j) = true
known f (k_ j) = true
known f (lit s n) = true
known f (one o t) = known f t
known f (two o t u) = known f t && known f u
known f (fold1 o a) = lit_known f a
known f (fold2 o a b) = lit_known f a && lit_known f b

abbrev pub has_s : ℕ → List Side → Bool
has_s j [] = false
has_s j (settled i ∷ sides) = (j == i) || has_s j sides
has_s j (side ∷ sides) = has_s j sides

abbrev pub all_below : ℕ → (ℕ → Bool) → Bool
all_below zero f = true
all_below (suc n) f = f n && all_below n f

pub below_all : (n : ℕ) (f : ℕ → Bool) → all_below n f ≡ true → (j : ℕ) → j < n → f j ≡ true
below_all zero f e j h = absurd (omega arith)
below_all (suc n) f e j h =
    let y = both_true (f n) (all_below n f) e in
    elim (low_or_last j n h) [ inl s ↦ subst (λ (q : ℕ). f q ≡ true) (sym s) y.0 | inr s ↦ below_all n f y.1 j s ]
  where
    low_or_last : (j n : ℕ) → j < suc n → (j ≡ n) ⊎ (j < n)
    low_or_last j n h = grind arith

eq_is : (a b : ℕ) → (a == b) ≡ true → a ≡ b
eq_is a b e = grind (arith, nat_tests)

abbrev pub is_op : Term → Bool
is_op (one o t) = true
is_op (two o t u) = true
is_op t = false

-- ---- numbers as values

abbrev pub Number : Word → ℤ → Val
Number s n = val.Num (num_of s n)

operand_of : (s : Word) (n : ℤ) → operand s (Number s n) ≡ Some n
operand_of int n = refl
operand_of long n = refl

scalar_one : (o : ScalarOp) (s : Word) (n : ℤ) → takes o ≡ s ∷ [] → scalar_value o (Number s n ∷ []) ≡ Some (Number (gives o) (scalar_of o n (pos 0)))
scalar_one o s n e = rw (e, operand_of s n) refl

scalar_two : (o : ScalarOp) (s t : Word) (n m : ℤ) → takes o ≡ s ∷ t ∷ [] → scalar_value o (Number s n ∷ Number t m ∷ []) ≡ Some (Number (gives o) (scalar_of o n m))
scalar_two o s t n m e = rw (e, operand_of s n, operand_of t m) refl

on_one : (o : ScalarOp) (s : Word) (n : ℤ) → takes o ≡ s ∷ [] → scalar_on o (takes o) (Number s n ∷ []) ≡ Some (scalar_of o n (pos 0))
on_one o s n e = rw (e, operand_of s n) refl

on_two : (o : ScalarOp) (s t : Word) (n m : ℤ) → takes o ≡ s ∷ t ∷ [] → scalar_on o (takes o) (Number s n ∷ Number t m ∷ []) ≡ Some (scalar_of o n m)
on_two o s t n m e = rw (e, operand_of s n, operand_of t m) refl

number_of : (s : Word) (u : Val) → IsOf (word_sort s) u → (n : ℤ) × (u ≡ Number s n) × FitsSigned (width_of s) n
number_of int (val.Num (num.Int n)) h = (n, refl, h)
number_of long (val.Num (num.Long n)) h = (n, refl, h)
number_of int u h = absurd h
number_of long u h = absurd h

same_sized : (s : Word) (a : Num) (n : ℤ) → val.Num a ≡ Number s n → a ≡ num_of s n
same_sized s a n e = cc

zero_fits : (s : Word) → FitsSigned (width_of s) (pos 0)
zero_fits int = record { sfits = lit< tt }
zero_fits long = record { sfits = lit< tt }

-- ---- a number for each variable

unfoldable pub picked : (P : ℕ → ℤ → Type 0) (o : Option ℕ) → ((a : ℕ) → o ≡ Some a → (n : ℤ) × P a n) → ℤ
picked P None f = pos 0
picked P (Some a) f = (f a refl).0

picked_is : (P : ℕ → ℤ → Type 0) (o : Option ℕ) (f : (a : ℕ) → o ≡ Some a → (n : ℤ) × P a n) (a : ℕ) → o ≡ Some a → P a (picked P o f)
unfolding picked
picked_is P None f a e = absurd (cc)
picked_is P (Some b) f a e = subst (λ (q : ℕ). P q ((f b refl).0)) (same_Some b a e) (f b refl).1

picked_fits : (P : ℕ → ℤ → Type 0) (s : Word) (o : Option ℕ) (f : (a : ℕ) → o ≡ Some a → (n : ℤ) × P a n) → ((a : ℕ) (n : ℤ) → P a n → FitsSigned (width_of s) n) → FitsSigned (width_of s) (picked P o f)
unfolding picked
picked_fits P s None f h = zero_fits s
picked_fits P s (Some a) f h = h a (f a refl).0 (f a refl).1

-- ---- values of terms

-- the node has this number, in the range of the size
abbrev pub HasNumber : (ℕ → Option (Form ℕ)) → World → Input → Index → Word → ℕ → ℤ → Type 0
HasNumber view w x i s a n = Value view w x a i (Number s n) × FitsSigned (width_of s) n

pub const_has : (view : ℕ → Option (Form ℕ)) (w : World) (x : Input) (i : Index) (o : Op) (a : ℕ) (n : Num) → view a ≡ Some (form o []) → constant_of o ≡ Some n → Value view w x a i (val.Num n)
unfolding strict
const_has view w x i (op.Int n) a m e s = den_makes view w x a i (val.Num m) (op.Int n) [] e ([], tt, ap (λ (q : Num). Some (val.Num q)) (same_Some (num.Int n) m s))
const_has view w x i (op.Long n) a m e s = den_makes view w x a i (val.Num m) (op.Long n) [] e ([], tt, ap (λ (q : Num). Some (val.Num q)) (same_Some (num.Long n) m s))
const_has view w x i o a m e s = absurd (cc)

const_of : (s : Word) (n : ℤ) → constant_of (const_op s n) ≡ Some (num_of s n)
const_of int n = refl
const_of long n = refl

scalar_has : (view : ℕ → Option (Form ℕ)) (w : World) (x : Input) (i : Index) (o : ScalarOp) (n : ℕ) (ks : List ℕ) (vs : List Val) (u : Val) → view n ≡ Some (form (op.Scalar o) ks) → AllZip (λ k u. Value view w x k i u) ks vs
    → scalar_value o vs ≡ Some u → Value view w x n i u
unfolding strict
scalar_has view w x i o n ks vs u e h s = den_makes view w x n i u (op.Scalar o) ks e (vs, h, s)

pub zip_one : (P : ℕ → Val → Type 0) (a : ℕ) (vs : List Val) → AllZip P (a ∷ []) vs → (r : Val) × P a r
zip_one P a (r ∷ []) h = (r, h.0)
zip_one P a vs h = absurd (assumption)

pub zip_two : (P : ℕ → Val → Type 0) (a b : ℕ) (vs : List Val) → AllZip P (a ∷ b ∷ []) vs → ((r : Val) × P a r) × ((r : Val) × P b r)
zip_two P a b (r ∷ s ∷ []) h = ((r, h.0), (s, h.1.0))
zip_two P a b vs h = absurd (assumption)

module _ (view : ℕ → Option (Form ℕ)) (w : World) (x : Input) (i : Index) (m : Names) (z : ℕ → Word) where
  -- over numbers for all variables, a term has its number
  has_number : (e : ℕ → ℤ) (f : ℕ → Bool) → ((j a : ℕ) → slice_get m.vars j ≡ Some a → Value view w x a i (Number (z j) (e j))) → ((j : ℕ) → f j ≡ true → m.constants j ≡ num_of (z j) (e j))
      → (t : Term) (n : ℕ) → fits z t ≡ true → known f t ≡ true → Stands view m (pattern_of t) n → Value view w x n i (Number (size_of z t) (val_of e t))
  has_number e f p q (v_ j) n y u h = p j n h
  has_number e f p q (k_ j) n y u h = p j n h.0
  has_number e f p q (lit s b) n y u h = const_has view w x i (const_op s b) n (num_of s b) (none_at view m (fixed (const_op s b)) n h) (const_of s b)
  has_number e f p q (one o t) n y u h =
      let d = one_at view m (fixed (op.Scalar o)) (pattern_of t) n h in
      let g = both_true (takes_one (takes o) (size_of z t)) (fits z t) y in
      scalar_has view w x i o n (d.0 ∷ []) (Number (size_of z t) (val_of e t) ∷ []) _ d.1 (has_number e f p q t d.0 g.1 u d.2, tt) (scalar_one o (size_of z t) (val_of e t) (one_is (takes o) (size_of z t) g.0))
  has_number e f p q (two o t r) n y u h =
      let d = two_at view m (fixed (op.Scalar o)) (pattern_of t) (pattern_of r) n h in
      let g = both_true (takes_two (takes o) (size_of z t) (size_of z r)) (fits z t && fits z r) y in
      let g' = both_true (fits z t) (fits z r) g.1 in
      let u' = both_true (known f t) (known f r) u in
      scalar_has view w x i o n (d.0 ∷ d.1 ∷ []) (Number (size_of z t) (val_of e t) ∷ Number (size_of z r) (val_of e r) ∷ []) _ d.2
      (has_number e f p q t d.0 g'.0 u'.0 d.3, (has_number e f p q r d.1 g'.1 u'.1 d.4, tt)) (scalar_two o (size_of z t) (size_of z r) (val_of e t) (val_of e r) (two_is (takes o) (size_of z t) (size_of z r) g.0))
  has_number e f p q (fold1 o a) n y u h =
      let a' = atom_is a u in
      let g : folded m o (atom a ∷ []) ≡ Some (num_of (gives o) (scalar_of o (lit_val e a) (pos 0))) =
      ap (λ (b : Num). bind (scalar_on o (takes o) (val.Num b ∷ [])) (λ n. Some (num_of (gives o) n))) a' ∙ ap (λ (r : Option ℤ). bind r (λ n. Some (num_of (gives o) n))) (on_one o (lit_size z a) (lit_val e a) (one_is (takes o) (lit_size z a) y)) in
      let r : h.0 ≡ num_of (gives o) (scalar_of o (lit_val e a) (pos 0)) = same_Some h.0 _ (sym h.1 ∙ g) in
      subst (λ (b : Num). Value view w x n i (val.Num b)) r (const_has view w x i h.2.0 n h.0 h.2.1 h.2.2)
    where
      atom_is : (a : Lit) → lit_known f a ≡ true → atom_of m (atom a) ≡ num_of (lit_size z a) (lit_val e a)
      atom_is (l_ s b) t = refl
      atom_is (c_ j) t = q j t
  has_number e f p q (fold2 o a b) n y u h =
      let u' = both_true (lit_known f a) (lit_known f b) u in
      let a' = atom_is a u'.0 in
      let b' = atom_is b u'.1 in
      let g : folded m o (atom a ∷ atom b ∷ []) ≡ Some (num_of (gives o) (scalar_of o (lit_val e a) (lit_val e b))) =
      ap (λ (d : Num). bind (scalar_on o (takes o) (val.Num d ∷ val.Num (atom_of m (atom b)) ∷ [])) (λ n. Some (num_of (gives o) n))) a'
      ∙ ap (λ (d : Num). bind (scalar_on o (takes o) (val.Num (num_of (lit_size z a) (lit_val e a)) ∷ val.Num d ∷ [])) (λ n. Some (num_of (gives o) n))) b'
      ∙ ap (λ (r : Option ℤ). bind r (λ n. Some (num_of (gives o) n))) (on_two o (lit_size z a) (lit_size z b) (lit_val e a) (lit_val e b) (two_is (takes o) (lit_size z a) (lit_size z b) y)) in
      let r : h.0 ≡ num_of (gives o) (scalar_of o (lit_val e a) (lit_val e b)) = same_Some h.0 _ (sym h.1 ∙ g) in
      subst (λ (b : Num). Value view w x n i (val.Num b)) r (const_has view w x i h.2.0 n h.0 h.2.1 h.2.2)
    where
      atom_is : (a : Lit) → lit_known f a ≡ true → atom_of m (atom a) ≡ num_of (lit_size z a) (lit_val e a)
      atom_is (l_ s b) t = refl
      atom_is (c_ j) t = q j t

  -- where a term has a value, so have its variables
  vars_have : (t : Term) (n : ℕ) (u : Val) → Stands view m (pattern_of t) n → Value view w x n i u → (j : ℕ) → has_v j t ≡ true → (a : ℕ) × (slice_get m.vars j ≡ Some a) × ((r : Val) × Value view w x a i r)
  vars_have (v_ l) n u h y j e = (n, subst (λ (q : ℕ). slice_get m.vars q ≡ Some n) (sym (eq_is j l e)) h, (u, y))
  vars_have (k_ l) n u h y j e = (n, subst (λ (q : ℕ). slice_get m.vars q ≡ Some n) (sym (eq_is j l e)) h.0, (u, y))
  vars_have (lit s b) n u h y j e = absurd (cc)
  vars_have (one o t) n u h y j e =
      let d = one_at view m (fixed (op.Scalar o)) (pattern_of t) n h in
      let p = (plain_is view w x n (op.Scalar o) (d.0 ∷ []) i u d.1 refl).0 y in
      let r = zip_one (λ k u. Value view w x k i u) d.0 p.0 p.1 in
      vars_have t d.0 r.0 d.2 r.1 j e
  vars_have (two o t t') n u h y j e =
      let d = two_at view m (fixed (op.Scalar o)) (pattern_of t) (pattern_of t') n h in
      let p = (plain_is view w x n (op.Scalar o) (d.0 ∷ d.1 ∷ []) i u d.2 refl).0 y in
      let r = zip_two (λ k u. Value view w x k i u) d.0 d.1 p.0 p.1 in
      elim (either_true (has_v j t) (has_v j t') e) [ inl f ↦ vars_have t d.0 r.0.0 d.3 r.0.1 j f | inr f ↦ vars_have t' d.1 r.1.0 d.4 r.1.1 j f ]
  vars_have (fold1 o a) n u h y j e = absurd (cc)
  vars_have (fold2 o a b) n u h y j e = absurd (cc)

  -- what a variable for constants stands for
  constants_at : (t : Term) (n : ℕ) → Stands view m (pattern_of t) n → (j : ℕ) → has_k j t ≡ true → (a : ℕ) × (slice_get m.vars j ≡ Some a) × IsConstantAt view a (m.constants j)
  constants_at (v_ l) n h j e = absurd (cc)
  constants_at (k_ l) n h j e = subst (λ (q : ℕ). (a : ℕ) × (slice_get m.vars q ≡ Some a) × IsConstantAt view a (m.constants q)) (sym (eq_is j l e)) (n, h.0, h.1)
  constants_at (lit s b) n h j e = absurd (cc)
  constants_at (one o t) n h j e = let d = one_at view m (fixed (op.Scalar o)) (pattern_of t) n h in constants_at t d.0 d.2 j e
  constants_at (two o t r) n h j e =
      let d = two_at view m (fixed (op.Scalar o)) (pattern_of t) (pattern_of r) n h in
      elim (either_true (has_k j t) (has_k j r) e) [ inl f ↦ constants_at t d.0 d.3 j f | inr f ↦ constants_at r d.1 d.4 j f ]
  constants_at (fold1 o a) n h j e = absurd (cc)
  constants_at (fold2 o a b) n h j e = absurd (cc)

-- ---- sorts of variables

-- a variable has the sort at which it is used
abbrev Given : Graph → (ℕ → Word) → Term → ℕ → Type 0
Given g z (v_ j) n = HasSortAt g n (word_sort (z j))
Given g z (k_ j) n = HasSortAt g n (word_sort (z j))
Given g z t n = Unit {0}

given : (g : Graph) (z : ℕ → Word) (t : Term) (n : ℕ) → HasSortAt g n (word_sort (size_of z t)) → Given g z t n
given g z (v_ j) n h = h
given g z (k_ j) n h = h
given g z t n h = tt

given_op : (g : Graph) (z : ℕ → Word) (t : Term) (n : ℕ) → is_op t ≡ true → Given g z t n
given_op g z (v_ j) n e = absurd (cc)
given_op g z (k_ j) n e = absurd (cc)
given_op g z t n e = tt

module _ (g : Graph) (w : World) (x : Input) (assumed : List ℕ) (set : Setting g w x assumed) (m : Names) (z : ℕ → Word) where
  kids_of : (o : ScalarOp) (n : ℕ) (ks : List ℕ) (ss : List Word) → form_at g.nodes n ≡ Some (form (op.Scalar o) ks) → takes o ≡ ss → AllZip (HasSortAt g) ks (map word_sort ss)
  kids_of o n ks ss e t =
      let h = kids_sorted g w x assumed set n (op.Scalar o) ks e in
      let same = exactly_are (map word_sort (takes o)) (word_sort (gives o)) h.1 h.0 h.3 in
      subst (λ (q : List Word). AllZip (HasSortAt g) ks (map word_sort q)) t (subst (λ (q : List OpSort). AllZip (HasSortAt g) ks q) (sym same.0) h.2)

  sorts_of : (t : Term) (n : ℕ) → fits z t ≡ true → Stands (form_at g.nodes) m (pattern_of t) n → Given g z t n → (j : ℕ) → has_v j t ≡ true → (a : ℕ) × (slice_get m.vars j ≡ Some a) × HasSortAt g a (word_sort (z j))
  sorts_of (v_ l) n f h y j e = subst (λ (q : ℕ). (a : ℕ) × (slice_get m.vars q ≡ Some a) × HasSortAt g a (word_sort (z q))) (sym (eq_is j l e)) (n, h, y)
  sorts_of (k_ l) n f h y j e = subst (λ (q : ℕ). (a : ℕ) × (slice_get m.vars q ≡ Some a) × HasSortAt g a (word_sort (z q))) (sym (eq_is j l e)) (n, h.0, y)
  sorts_of (lit s b) n f h y j e = absurd (cc)
  sorts_of (one o t) n f h y j e =
      let d = one_at (form_at g.nodes) m (fixed (op.Scalar o)) (pattern_of t) n h in
      let f' = both_true (takes_one (takes o) (size_of z t)) (fits z t) f in
      let s = kids_of o n (d.0 ∷ []) (size_of z t ∷ []) d.1 (one_is (takes o) (size_of z t) f'.0) in
      sorts_of t d.0 f'.1 d.2 (given g z t d.0 s.0) j e
  sorts_of (two o t r) n f h y j e =
      let d = two_at (form_at g.nodes) m (fixed (op.Scalar o)) (pattern_of t) (pattern_of r) n h in
      let f' = both_true (takes_two (takes o) (size_of z t) (size_of z r)) (fits z t && fits z r) f in
      let f'' = both_true (fits z t) (fits z r) f'.1 in
      let s = kids_of o n (d.0 ∷ d.1 ∷ []) (size_of z t ∷ size_of z r ∷ []) d.2 (two_is (takes o) (size_of z t) (size_of z r) f'.0) in
      elim (either_true (has_v j t) (has_v j r) e) [ inl p ↦ sorts_of t d.0 f''.0 d.3 (given g z t d.0 s.0) j p | inr p ↦ sorts_of r d.1 f''.1 d.4 (given g z r d.1 s.1.0) j p ]
  sorts_of (fold1 o a) n f h y j e = absurd (cc)
  sorts_of (fold2 o a b) n f h y j e = absurd (cc)

  settled_in : (sides : List Side) → AllByRecursion (Holds g assumed m) sides → (j : ℕ) → has_s j sides ≡ true → (a : ℕ) × (slice_get m.vars j ≡ Some a) × IsSettled (form_at g.nodes) assumed a
  settled_in [] h j e = absurd (cc)
  settled_in (settled l ∷ sides) h j e =
      elim (either_true (j == l) (has_s j sides) e) [
        | inl p ↦ subst (λ (q : ℕ). (a : ℕ) × (slice_get m.vars q ≡ Some a) × IsSettled (form_at g.nodes) assumed a) (sym (eq_is j l p)) h.0
        | inr p ↦ settled_in sides h.1 j p
      ]
  settled_in (not_free l ∷ sides) h j e = settled_in sides h.1 j e
  settled_in (symbols_differ l l' ∷ sides) h j e = settled_in sides h.1 j e
  settled_in (kinds_differ l l' ∷ sides) h j e = settled_in sides h.1 j e
  settled_in (not_byte l ∷ sides) h j e = settled_in sides h.1 j e
  settled_in (constants_differ l l' ∷ sides) h j e = settled_in sides h.1 j e

-- ---- the law

-- the terms are of one size, over variables of these sizes; where the right side has a value, all
-- variables of the left side have one, since they stand there, are settled or stand for constants; and
-- constants in folds stand in the left side
abbrev pub good : (ℕ → Word) → Term → Term → List Side → Bool
good z tl tr sides =
    fits z tl && (fits z tr && (same_size (size_of z tl) (size_of z tr) && (is_op tl
    && (all_below (variables (pattern_of tl)) (λ j. has_v j tl) && (all_below (variables (pattern_of tl)) (λ j. has_v j tr || (has_s j sides || has_k j tl))
    && (known (λ j. has_k j tl) tl && known (λ j. has_k j tl) tr))))))

all_true : (a b c d e f g h : Bool) → (a && (b && (c && (d && (e && (f && (g && h))))))) ≡ true
    → (a ≡ true) × (b ≡ true) × (c ≡ true) × (d ≡ true) × (e ≡ true) × (f ≡ true) × (g ≡ true) × (h ≡ true)
all_true true true true true true true g h y = let z = both_true g h y in (refl, refl, refl, refl, refl, refl, z.0, z.1)
all_true false b c d e f g h y = absurd (cc)
all_true true false c d e f g h y = absurd (cc)
all_true true true false d e f g h y = absurd (cc)
all_true true true true false e f g h y = absurd (cc)
all_true true true true true false f g h y = absurd (cc)
all_true true true true true true false g h y = absurd (cc)

-- over numbers for all variables, both sides have one value
both_sides : (view : ℕ → Option (Form ℕ)) (w : World) (x : Input) (i : Index) (m : Names) (z : ℕ → Word) (tl tr : Term) (l r : ℕ) → fits z tl ≡ true → fits z tr ≡ true → size_of z tl ≡ size_of z tr
    → known (λ j. has_k j tl) tl ≡ true → known (λ j. has_k j tl) tr ≡ true → ((e : ℕ → ℤ) → ((j : ℕ) → FitsSigned (width_of (z j)) (e j)) → val_of e tl ≡ val_of e tr)
    → Stands view m (pattern_of tl) l → Stands view m (pattern_of tr) r → ((j a : ℕ) → slice_get m.vars j ≡ Some a → (n : ℤ) × HasNumber view w x i (z j) a n) → (u : Val) → Value view w x l i u ↔ Value view w x r i u
both_sides view w x i m z tl tr l r fl fr sizes kl kr law left right have u =
    let e = λ (j : ℕ). picked (λ a n. HasNumber view w x i (z j) a n) (slice_get m.vars j) (have j) in
    let p = λ (j a : ℕ) (s : slice_get m.vars j ≡ Some a). (picked_is (λ a n. HasNumber view w x i (z j) a n) (slice_get m.vars j) (have j) a s).0 in
    let q = λ (j : ℕ) (t : has_k j tl ≡ true). constant_is j (e j) (constants_at view w x i m z tl l left j t) (p j) in
    let vl = has_number view w x i m z e (λ j. has_k j tl) p q tl l fl kl left in
    let vr = has_number view w x i m z e (λ j. has_k j tl) p q tr r fr kr right in
    let same = law e (λ j. picked_fits (λ a n. HasNumber view w x i (z j) a n) (z j) (slice_get m.vars j) (have j) (λ a n h. h.1)) in
    let vr' : Value view w x r i (Number (size_of z tl) (val_of e tl)) = subst (λ (n : ℤ). Value view w x r i (Number (size_of z tl) n)) (sym same) (subst (λ (s : Word). Value view w x r i (Number s (val_of e tr))) (sym sizes) vr) in (
      λ h. subst (λ (y : Val). Value view w x r i y) (value_once view w x l i (Number (size_of z tl) (val_of e tl)) u vl h) vr',
      λ h. subst (λ (y : Val). Value view w x l i y) (value_once view w x r i (Number (size_of z tl) (val_of e tl)) u vr' h) vl,
    )
  where
    constant_is : (j : ℕ) (n : ℤ) → (a : ℕ) × (slice_get m.vars j ≡ Some a) × IsConstantAt view a (m.constants j) → ((a : ℕ) → slice_get m.vars j ≡ Some a → Value view w x a i (Number (z j) n)) → m.constants j ≡ num_of (z j) n
    constant_is j n d p =
        same_sized (z j) (m.constants j) n (value_once view w x d.0 i (val.Num (m.constants j)) (Number (z j) n) (const_has view w x i d.2.0 d.0 (m.constants j) d.2.1 d.2.2) (p d.0 d.1))

pub scalar_law : (n : ℕ) (z : ℕ → Word) (tl tr : Term) (sides : List Side) → good z tl tr sides ≡ true → ((e : ℕ → ℤ) → ((j : ℕ) → FitsSigned (width_of (z j)) (e j)) → val_of e tl ≡ val_of e tr)
    → Law (rule n (pattern_of tl) (pattern_of tr) sides)
scalar_law number_ z tl tr sides ok law g assumed subst_ l r w x set is i u =
    let view = form_at g.nodes in
    let m = is.names in
    let count = variables (pattern_of tl) in
    let y = all_true (fits z tl) (fits z tr) (same_size (size_of z tl) (size_of z tr)) (is_op tl) (all_below count (λ j. has_v j tl)) (all_below count (λ j. has_v j tr || (has_s j sides || has_k j tl))) (known (λ j. has_k j tl) tl) (known (λ j. has_k j tl) tr) ok in
    let within = λ (j a : ℕ) (s : slice_get m.vars j ≡ Some a). under j a s is.long in
    let sorts = λ (j a : ℕ) (s : slice_get m.vars j ≡ Some a).
    let d = sorts_of g w x assumed set m z tl l y.0 is.left (given_op g z tl l y.3) j (below_all count (λ j. has_v j tl) y.4 j (within j a s)) in
    subst (λ (q : ℕ). HasSortAt g q (word_sort (z j))) (same_at (slice_get m.vars j) d.0 a d.1 s) d.2 in
    let sides_are = λ (have : (j a : ℕ) → slice_get m.vars j ≡ Some a → (u : Val) × Value view w x a i u).
    both_sides view w x i m z tl tr l r y.0 y.1 (same_size_is (size_of z tl) (size_of z tr) y.2) y.6 y.7 law is.left is.right (λ j a s. numbered j a (sorts j a s) (have j a s)) u in (
      λ h. (sides_are (λ j a s.
          let d = vars_have view w x i m z tl l u is.left h j (below_all count (λ j. has_v j tl) y.4 j (within j a s)) in
          subst (λ (q : ℕ). (u : Val) × Value view w x q i u) (same_at (slice_get m.vars j) d.0 a d.1 s) d.2)).0 h,
      λ h. (sides_are (λ j a s. elim (either_true (has_v j tr) (has_s j sides || has_k j tl) (below_all count (λ j. has_v j tr || (has_s j sides || has_k j tl)) y.5 j (within j a s))) [
        | inl t ↦ let d = vars_have view w x i m z tr r u is.right h j t in subst (λ (q : ℕ). (u : Val) × Value view w x q i u) (same_at (slice_get m.vars j) d.0 a d.1 s) d.2
        | inr t ↦ elim (either_true (has_s j sides) (has_k j tl) t) [
          | inl t ↦
              let d = settled_in g w x assumed set m z sides is.sides j t in
              let same = same_at (slice_get m.vars j) d.0 a d.1 s in
              let v = settled_has g w x assumed set a (word_sort (z j)) i (sorts j a s) (subst (λ (q : ℕ). IsSettled view assumed q) same d.2) in
              (v.0, v.1)
          | inr t ↦
              let d = constants_at view w x i m z tl l is.left j t in
              subst (λ (q : ℕ). (u : Val) × Value view w x q i u) (same_at (slice_get m.vars j) d.0 a d.1 s) (val.Num (m.constants j), const_has view w x i d.2.0 d.0 (m.constants j) d.2.1 d.2.2)
        ]
      ])).1 h,
    )
  where
    under : (j a : ℕ) → slice_get is.names.vars j ≡ Some a → length is.names.vars ≡ variables (pattern_of tl) → j < variables (pattern_of tl)
    under j a s e = let b = slice_get_within is.names.vars j a s in omega arith

    numbered : (j a : ℕ) → HasSortAt g a (word_sort (z j)) → (u : Val) × Value (form_at g.nodes) w x a i u → (n : ℤ) × HasNumber (form_at g.nodes) w x i (z j) a n
    numbered j a t h =
        let n = number_of (z j) h.0 (sort_law g w x a (word_sort (z j)) i h.0 set.made.graph set.sealed set.world set.input t h.1) in
        (n.0, (subst (λ (v : Val). Value (form_at g.nodes) w x a i v) n.1 h.1, n.2))
