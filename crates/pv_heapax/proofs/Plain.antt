-- Patterns of operations on the heap, and the laws of axioms between them from equations on values.
use Rattle.std.specs.Prelude.{◌≡◌, ◌⊎◌, ◌↔◌, ℕ, zero, suc, ◌<◌, pos, Bool, true, false, ◌&&◌, ◌||◌, ◌==◌, List, [], ◌∷◌, map, length, Option, Some, None, slice_get, if◌then◌else◌, refl}
use Rattle.std.specs.List.{AllZip, AllByRecursion}
use Rattle.std.proofs.Common.{inl, inr, sym, ap, ◌∙◌, subst, arith}
use Rattle.std.proofs.lemmas.Option.{slice_get_within, same_Some}
use Rattle.std.proofs.lemmas.Bool.Decides.{nat_tests}
use Rattle.pv_value.specs.Spelled.{bind}
use Rattle.pv_value.specs.declared.descriptor.JType.{JType}
use Rattle.pv_value.specs.declared.descriptor.JType.TheVariants as jtype
use Rattle.pv_value.specs.declared.operation.ScalarOp.TheVariants.{Iand, I2b, I2c, I2s}
use Rattle.pv_value.specs.declared.number.Num.{Num}
use Rattle.pv_value.specs.declared.number.Num.TheVariants as num
use Rattle.pv_value.specs.declared.world.World.{World}
use Rattle.pv_value.specs.declared.outcome.Input.{Input}
use Rattle.pv_value.specs.declared.outcome.Val.{Val}
use Rattle.pv_value.specs.declared.outcome.Val.TheVariants as val
use Rattle.pv_graph.specs.declared.node.Op.{Op}
use Rattle.pv_graph.specs.declared.node.Op.TheVariants as op
use Rattle.pv_graph.specs.declared.node.OpSort.{OpSort}
use Rattle.pv_graph.specs.declared.node.OpSort.TheVariants as sort
use Rattle.pv_graph.specs.Ops.{plain, shape, sort_over, field_sort, kind_sort}
use Rattle.pv_graph.specs.Forms.{Form, form}
use Rattle.pv_denote.specs.Denote.{Index, strict, Value, scalar_value}
use Rattle.pv_denote.specs.Typed.{IsOf}
use Rattle.pv_graph.specs.Walks.{IsSettled}
use Rattle.pv_graph.specs.Graphs.{Graph, form_at}
use Rattle.pv_graph.proofs.Cited.{bind_some, HasSortAt, exactly_are}
use Rattle.pv_denote.proofs.Cited.{value_once, den_makes, sort_law}
use Rattle.pv_pattern.specs.Patterns.{Head, getstatic, putstatic, getfield, putfield, load, store, Pattern, var, constant, narrowed, over, Patterns, none, first, Side, settled, not_free, symbols_differ, kinds_differ, not_byte, constants_differ, variables_of}
use Rattle.pv_pattern.specs.Instances.{Names, head_op, constant_of, IsConstantAt, type_by, Narrows, Stands, StandAll, Holds}
use Rattle.pv_pattern.specs.Laws.{Setting, Law}
use Rattle.pv_pattern.proofs.Cited.{same_at, kids_sorted, settled_has, plain_is}
use Rattle.pv_heapax.specs.Table.{rule}

-- ---- operations on the heap

abbrev is_heap_op : Head → Bool
is_heap_op (getstatic s) = true
is_heap_op (putstatic s) = true
is_heap_op (getfield s) = true
is_heap_op (putfield s) = true
is_heap_op (load k) = true
is_heap_op (store k) = true
is_heap_op h = false

heap_plain : (m : Names) (h : Head) → is_heap_op h ≡ true → shape (head_op m h) ≡ plain
heap_plain m (getstatic s) e = refl
heap_plain m (putstatic s) e = refl
heap_plain m (getfield s) e = refl
heap_plain m (putfield s) e = refl
heap_plain m (load s) e = refl
heap_plain m (store s) e = refl
heap_plain m h e = absurd (cc)

-- what each takes, where its symbol has a type
abbrev pub takes_at : Names → Head → List (Option OpSort)
takes_at m (getstatic s) = Some sort.H ∷ []
takes_at m (putstatic s) = Some sort.H ∷ field_sort (m.symbols s) ∷ []
takes_at m (getfield s) = Some sort.H ∷ Some sort.A ∷ []
takes_at m (putfield s) = Some sort.H ∷ Some sort.A ∷ field_sort (m.symbols s) ∷ []
takes_at m (load k) = Some sort.H ∷ Some sort.A ∷ Some sort.I ∷ []
takes_at m (store k) = Some sort.H ∷ Some sort.A ∷ Some sort.I ∷ Some (kind_sort (m.kinds k)) ∷ []
takes_at m h = []

takes_is : (m : Names) (h : Head) (ss : List OpSort) (s : OpSort) → is_heap_op h ≡ true → sort_over (head_op m h) ss ≡ Some s → takes_at m h ≡ map Some ss
takes_is m (getstatic y) ss s e f =
    let z = bind_some (field_sort (m.symbols y)) _ s f in
    ap (map Some) (exactly_are (sort.H ∷ []) z.0 ss s z.2).0
takes_is m (putstatic y) ss s e f =
    let z = bind_some (field_sort (m.symbols y)) _ s f in
    ap (λ (q : Option OpSort). Some sort.H ∷ q ∷ []) z.1 ∙ ap (map Some) (exactly_are (sort.H ∷ z.0 ∷ []) sort.H ss s z.2).0
takes_is m (getfield y) ss s e f =
    let z = bind_some (field_sort (m.symbols y)) _ s f in
    ap (map Some) (exactly_are (sort.H ∷ sort.A ∷ []) z.0 ss s z.2).0
takes_is m (putfield y) ss s e f =
    let z = bind_some (field_sort (m.symbols y)) _ s f in
    ap (λ (q : Option OpSort). Some sort.H ∷ Some sort.A ∷ q ∷ []) z.1 ∙ ap (map Some) (exactly_are (sort.H ∷ sort.A ∷ z.0 ∷ []) sort.H ss s z.2).0
takes_is m (load y) ss s e f = ap (map Some) (exactly_are (sort.H ∷ sort.A ∷ sort.I ∷ []) (kind_sort (m.kinds y)) ss s f).0
takes_is m (store y) ss s e f = ap (map Some) (exactly_are (sort.H ∷ sort.A ∷ sort.I ∷ kind_sort (m.kinds y) ∷ []) sort.H ss s f).0
takes_is m h ss s e f = absurd (cc)

-- ---- patterns over variables

abbrev mutual
  pub is_plain : Pattern → Bool
  is_plain (var j) = true
  is_plain (constant j) = true
  is_plain (over h ps) = is_heap_op h && are_plain ps
  is_plain p = false

  pub are_plain : Patterns → Bool
  are_plain none = true
  are_plain (first p ps) = is_plain p && are_plain ps

-- what may stand on the right
abbrev pub is_right : Pattern → Bool
is_right (narrowed t p) = is_plain p
is_right p = is_plain p

abbrev mutual
  pub has_v : ℕ → Pattern → Bool
  has_v j (var i) = j == i
  has_v j (constant i) = j == i
  has_v j (over h ps) = have_v j ps
  has_v j (narrowed t p) = has_v j p
  has_v j p = false

  pub have_v : ℕ → Patterns → Bool
  have_v j none = false
  have_v j (first p ps) = has_v j p || have_v j ps

abbrev mutual
  pub has_k : ℕ → Pattern → Bool
  has_k j (constant i) = j == i
  has_k j (over h ps) = have_k j ps
  has_k j p = false

  pub have_k : ℕ → Patterns → Bool
  have_k j none = false
  have_k j (first p ps) = has_k j p || have_k j ps

abbrev pub has_s : ℕ → List Side → Bool
has_s j [] = false
has_s j (settled i ∷ sides) = (j == i) || has_s j sides
has_s j (side ∷ sides) = has_s j sides

abbrev pub all_below : ℕ → (ℕ → Bool) → Bool
all_below zero f = true
all_below (suc n) f = f n && all_below n f

abbrev mutual
  -- the sort at a variable's first place
  pub wanted : Names → ℕ → Pattern → Option OpSort → Option OpSort
  wanted m j (over h ps) s = want m j ps (takes_at m h)
  wanted m j p s = s

  pub want : Names → ℕ → Patterns → List (Option OpSort) → Option OpSort
  want m j (first p ps) (s ∷ ss) = if has_v j p then wanted m j p s else want m j ps ss
  want m j ps ss = None

-- a narrowed value
abbrev pub narrowed_val : JType → Option Val → Option Val
narrowed_val jtype.Z o = bind o (λ u. scalar_value Iand (u ∷ val.Num (num.Int (pos 1)) ∷ []))
narrowed_val jtype.B o = bind o (λ u. scalar_value I2b (u ∷ []))
narrowed_val jtype.C o = bind o (λ u. scalar_value I2c (u ∷ []))
narrowed_val jtype.S o = bind o (λ u. scalar_value I2s (u ∷ []))
narrowed_val t o = o

abbrev mutual
  -- the value over those of the variables
  pub val_at : World → Input → Names → (ℕ → Val) → Pattern → Option Val
  val_at w x m e (var j) = Some (e j)
  val_at w x m e (constant j) = Some (e j)
  val_at w x m e (over h ps) = bind (vals_at w x m e ps) (strict w x (head_op m h))
  val_at w x m e (narrowed t p) = bind (type_by m t) (λ y. narrowed_val y (val_at w x m e p))
  val_at w x m e p = None

  pub vals_at : World → Input → Names → (ℕ → Val) → Patterns → Option (List Val)
  vals_at w x m e none = Some []
  vals_at w x m e (first p ps) = bind (val_at w x m e p) (λ v. bind (vals_at w x m e ps) (λ vs. Some (v ∷ vs)))

both_true : (a b : Bool) → (a && b) ≡ true → (a ≡ true) × (b ≡ true)
both_true true b e = (refl, e)
both_true false b e = absurd (cc)

either_true : (a b : Bool) → (a || b) ≡ true → (a ≡ true) ⊎ (b ≡ true)
either_true true b e = inl refl
either_true false b e = inr e

eq_is : (a b : ℕ) → (a == b) ≡ true → a ≡ b
eq_is a b e = grind (arith, nat_tests)

scalar_gives : (view : ℕ → Option (Form ℕ)) (w : World) (x : Input) (i : Index) (n : ℕ) (o : Op) (ks : List ℕ) (vs : List Val) (u : Val) → view n ≡ Some (form o ks) → shape o ≡ plain
    → AllZip (λ k u. Value view w x k i u) ks vs → strict w x o vs ≡ Some u → Value view w x n i u
scalar_gives view w x i n o ks vs u e is h s = (plain_is view w x n o ks i u e is).1 (vs, h, s)

one_gives : (view : ℕ → Option (Form ℕ)) (w : World) (x : Input) (n : ℕ) (i : Index) → view n ≡ Some (form (op.Int (pos 1)) []) → Value view w x n i (val.Num (num.Int (pos 1)))
unfolding strict
one_gives view w x n i e = den_makes view w x n i (val.Num (num.Int (pos 1))) (op.Int (pos 1)) [] e ([], tt, refl)

module _ (view : ℕ → Option (Form ℕ)) (w : World) (x : Input) (i : Index) (m : Names) (e : ℕ → Val) (given : (j a : ℕ) → slice_get m.vars j ≡ Some a → Value view w x a i (e j)) where
  mutual
    has_val : (p : Pattern) (n : ℕ) (u : Val) → is_plain p ≡ true → Stands view m p n → val_at w x m e p ≡ Some u → Value view w x n i u
    has_val (var j) n u f h s = subst (λ (q : Val). Value view w x n i q) (same_Some (e j) u s) (given j n h)
    has_val (constant j) n u f h s = subst (λ (q : Val). Value view w x n i q) (same_Some (e j) u s) (given j n h.0)
    has_val (over h ps) n u f d s =
        let f' = both_true (is_heap_op h) (are_plain ps) f in
        let z = bind_some (vals_at w x m e ps) _ u s in
        (plain_is view w x n (head_op m h) d.0 i u d.1 (heap_plain m h f'.0)).1 (z.0, have_vals ps d.0 z.0 f'.1 d.2 z.1, z.2)
    has_val p n u f h s = absurd (cc)

    have_vals : (ps : Patterns) (ks : List ℕ) (vs : List Val) → are_plain ps ≡ true → StandAll view m ps ks → vals_at w x m e ps ≡ Some vs → AllZip (λ k u. Value view w x k i u) ks vs
    have_vals none [] vs f h s = subst (λ (q : List Val). AllZip (λ k u. Value view w x k i u) [] q) (same_Some [] vs s) tt
    have_vals none (k ∷ ks) vs f h s = absurd h
    have_vals (first p ps) [] vs f h s = absurd h
    have_vals (first p ps) (k ∷ ks) vs f h s =
        let f' = both_true (is_plain p) (are_plain ps) f in
        let a = bind_some (val_at w x m e p) _ vs s in
        let b = bind_some (vals_at w x m e ps) _ vs a.2 in
        subst (λ (q : List Val). AllZip (λ k u. Value view w x k i u) (k ∷ ks) q) (same_Some (a.0 ∷ b.0) vs b.2) (has_val p k a.0 f'.0 h.0 a.1, have_vals ps ks b.0 f'.1 h.1 b.1)

  narrow_has : (y : JType) (p : Pattern) (n : ℕ) (u : Val) → is_plain p ≡ true → Narrows view y (Stands view m p) n → narrowed_val y (val_at w x m e p) ≡ Some u → Value view w x n i u
  unfolding strict
  narrow_has jtype.Z p n u f h s =
      let a = bind_some (val_at w x m e p) _ u s in
      (plain_is view w x n (op.Scalar Iand) (h.0 ∷ h.1 ∷ []) i u h.2 refl).1 (a.0 ∷ val.Num (num.Int (pos 1)) ∷ [], (has_val p h.0 a.0 f h.3 a.1, (one_gives view w x h.1 i h.4, tt)), a.2)
  narrow_has jtype.B p n u f h s = let a = bind_some (val_at w x m e p) _ u s in (plain_is view w x n (op.Scalar I2b) (h.0 ∷ []) i u h.1 refl).1 (a.0 ∷ [], (has_val p h.0 a.0 f h.2 a.1, tt), a.2)
  narrow_has jtype.C p n u f h s = let a = bind_some (val_at w x m e p) _ u s in (plain_is view w x n (op.Scalar I2c) (h.0 ∷ []) i u h.1 refl).1 (a.0 ∷ [], (has_val p h.0 a.0 f h.2 a.1, tt), a.2)
  narrow_has jtype.S p n u f h s = let a = bind_some (val_at w x m e p) _ u s in (plain_is view w x n (op.Scalar I2s) (h.0 ∷ []) i u h.1 refl).1 (a.0 ∷ [], (has_val p h.0 a.0 f h.2 a.1, tt), a.2)
  narrow_has t p n u f h s = has_val p n u f h s

  -- a right side: plain, or narrowed
  right_has : (p : Pattern) (n : ℕ) (u : Val) → is_right p ≡ true → Stands view m p n → val_at w x m e p ≡ Some u → Value view w x n i u
  right_has (narrowed t p) n u f h s =
      let a = bind_some (type_by m t) _ u s in
      narrow_has a.0 p n u f (subst (λ (y : JType). Narrows view y (Stands view m p) n) (same_Some h.0 a.0 (sym h.1 ∙ a.1)) h.2) a.2
  right_has (var j) n u f h s = has_val (var j) n u f h s
  right_has (constant j) n u f h s = has_val (constant j) n u f h s
  right_has (over h ps) n u f d s = has_val (over h ps) n u f d s
  right_has p n u f h s = absurd (cc)

module _ (view : ℕ → Option (Form ℕ)) (w : World) (x : Input) (i : Index) (m : Names) where
  mutual
    vars_have : (p : Pattern) (n : ℕ) (u : Val) → is_plain p ≡ true → Stands view m p n → Value view w x n i u → (j : ℕ) → has_v j p ≡ true → (a : ℕ) × (slice_get m.vars j ≡ Some a) × ((r : Val) × Value view w x a i r)
    vars_have (var b) n u f h y j e = (n, subst (λ (q : ℕ). slice_get m.vars q ≡ Some n) (sym (eq_is j b e)) h, (u, y))
    vars_have (constant b) n u f h y j e = (n, subst (λ (q : ℕ). slice_get m.vars q ≡ Some n) (sym (eq_is j b e)) h.0, (u, y))
    vars_have (over h ps) n u f d y j e =
        let f' = both_true (is_heap_op h) (are_plain ps) f in
        let p = (plain_is view w x n (head_op m h) d.0 i u d.1 (heap_plain m h f'.0)).0 y in
        all_have ps d.0 p.0 f'.1 d.2 p.1 j e
    vars_have p n u f h y j e = absurd (cc)

    all_have : (ps : Patterns) (ks : List ℕ) (vs : List Val) → are_plain ps ≡ true → StandAll view m ps ks → AllZip (λ k u. Value view w x k i u) ks vs → (j : ℕ) → have_v j ps ≡ true
        → (a : ℕ) × (slice_get m.vars j ≡ Some a) × ((r : Val) × Value view w x a i r)
    all_have none ks vs f h z j e = absurd (cc)
    all_have (first p ps) [] vs f h z j e = absurd h
    all_have (first p ps) (k ∷ ks) [] f h z j e = absurd z
    all_have (first p ps) (k ∷ ks) (v ∷ vs) f h z j e =
        let f' = both_true (is_plain p) (are_plain ps) f in
        elim (either_true (has_v j p) (have_v j ps) e) [ inl t ↦ vars_have p k v f'.0 h.0 z.0 j t | inr t ↦ all_have ps ks vs f'.1 h.1 z.1 j t ]

  narrowed_have : (y : JType) (p : Pattern) (n : ℕ) (u : Val) → is_plain p ≡ true → Narrows view y (Stands view m p) n → Value view w x n i u → (j : ℕ) → has_v j p ≡ true → (a : ℕ) × (slice_get m.vars j ≡ Some a) × ((r : Val) × Value view w x a i r)
  narrowed_have jtype.Z p n u f h y j e = let d = (plain_is view w x n (op.Scalar Iand) (h.0 ∷ h.1 ∷ []) i u h.2 refl).0 y in let r = first_val h.0 (h.1 ∷ []) d.0 d.1 in vars_have p h.0 r.0 f h.3 r.1 j e
    where
      first_val : (k : ℕ) (ks : List ℕ) (vs : List Val) → AllZip (λ k u. Value view w x k i u) (k ∷ ks) vs → (r : Val) × Value view w x k i r
      first_val k ks (v ∷ vs) z = (v, z.0)
      first_val k ks [] z = absurd z
  narrowed_have jtype.B p n u f h y j e = let d = (plain_is view w x n (op.Scalar I2b) (h.0 ∷ []) i u h.1 refl).0 y in let r = one_val h.0 d.0 d.1 in vars_have p h.0 r.0 f h.2 r.1 j e
    where
      one_val : (k : ℕ) (vs : List Val) → AllZip (λ k u. Value view w x k i u) (k ∷ []) vs → (r : Val) × Value view w x k i r
      one_val k (v ∷ vs) z = (v, z.0)
      one_val k [] z = absurd z
  narrowed_have jtype.C p n u f h y j e = let d = (plain_is view w x n (op.Scalar I2c) (h.0 ∷ []) i u h.1 refl).0 y in let r = one_val h.0 d.0 d.1 in vars_have p h.0 r.0 f h.2 r.1 j e
    where
      one_val : (k : ℕ) (vs : List Val) → AllZip (λ k u. Value view w x k i u) (k ∷ []) vs → (r : Val) × Value view w x k i r
      one_val k (v ∷ vs) z = (v, z.0)
      one_val k [] z = absurd z
  narrowed_have jtype.S p n u f h y j e = let d = (plain_is view w x n (op.Scalar I2s) (h.0 ∷ []) i u h.1 refl).0 y in let r = one_val h.0 d.0 d.1 in vars_have p h.0 r.0 f h.2 r.1 j e
    where
      one_val : (k : ℕ) (vs : List Val) → AllZip (λ k u. Value view w x k i u) (k ∷ []) vs → (r : Val) × Value view w x k i r
      one_val k (v ∷ vs) z = (v, z.0)
      one_val k [] z = absurd z
  narrowed_have t p n u f h y j e = vars_have p n u f h y j e

  right_vars : (p : Pattern) (n : ℕ) (u : Val) → is_right p ≡ true → Stands view m p n → Value view w x n i u → (j : ℕ) → has_v j p ≡ true → (a : ℕ) × (slice_get m.vars j ≡ Some a) × ((r : Val) × Value view w x a i r)
  right_vars (narrowed t p) n u f h y j e = narrowed_have h.0 p n u f h.2 y j e
  right_vars (var b) n u f h y j e = vars_have (var b) n u f h y j e
  right_vars (constant b) n u f h y j e = vars_have (constant b) n u f h y j e
  right_vars (over h ps) n u f d y j e = vars_have (over h ps) n u f d y j e
  right_vars p n u f h y j e = absurd (cc)

-- ---- sorts of variables

or_cases : (a b : Bool) → (a || b) ≡ true → (a ≡ true) ⊎ ((a ≡ false) × (b ≡ true))
or_cases true b e = inl refl
or_cases false b e = inr (refl, e)

taken : (b : Bool) (o q r : Option OpSort) → b ≡ true → o ≡ r → (if b then o else q) ≡ r
taken true o q r e f = f
taken false o q r e f = absurd (cc)

passed : (b : Bool) (o q r : Option OpSort) → b ≡ false → q ≡ r → (if b then o else q) ≡ r
passed false o q r e f = f
passed true o q r e f = absurd (cc)

module _ (g : Graph) (w : World) (x : Input) (assumed : List ℕ) (set : Setting g w x assumed) (m : Names) where
  mutual
    sorts_of : (p : Pattern) (n : ℕ) (s : OpSort) → is_plain p ≡ true → Stands (form_at g.nodes) m p n → HasSortAt g n s → (j : ℕ) → has_v j p ≡ true
        → (a : ℕ) × (t : OpSort) × (slice_get m.vars j ≡ Some a) × HasSortAt g a t × (wanted m j p (Some s) ≡ Some t)
    sorts_of (var b) n s f h y j e = (n, s, subst (λ (q : ℕ). slice_get m.vars q ≡ Some n) (sym (eq_is j b e)) h, y, refl)
    sorts_of (constant b) n s f h y j e = (n, s, subst (λ (q : ℕ). slice_get m.vars q ≡ Some n) (sym (eq_is j b e)) h.0, y, refl)
    sorts_of (over h ps) n s f d y j e =
        let f' = both_true (is_heap_op h) (are_plain ps) f in
        let k = kids_sorted g w x assumed set n (head_op m h) d.0 d.1 in
        let r = all_sorts ps d.0 k.1 f'.1 d.2 k.2 j e in
        (r.0, r.1, r.2, r.3, subst (λ (zs : List (Option OpSort)). want m j ps zs ≡ Some r.1) (sym (takes_is m h k.1 k.0 f'.0 k.3)) r.4)
    sorts_of p n s f h y j e = absurd (cc)

    all_sorts : (ps : Patterns) (ks : List ℕ) (ss : List OpSort) → are_plain ps ≡ true → StandAll (form_at g.nodes) m ps ks → AllZip (HasSortAt g) ks ss → (j : ℕ) → have_v j ps ≡ true
        → (a : ℕ) × (t : OpSort) × (slice_get m.vars j ≡ Some a) × HasSortAt g a t × (want m j ps (map Some ss) ≡ Some t)
    all_sorts none ks ss f h z j e = absurd (cc)
    all_sorts (first p ps) [] ss f h z j e = absurd h
    all_sorts (first p ps) (k ∷ ks) [] f h z j e = absurd z
    all_sorts (first p ps) (k ∷ ks) (s ∷ ss) f h z j e =
        let f' = both_true (is_plain p) (are_plain ps) f in
        elim (or_cases (has_v j p) (have_v j ps) e) [
          | inl t ↦ let r = sorts_of p k s f'.0 h.0 z.0 j t in (r.0, r.1, r.2, r.3, taken (has_v j p) (wanted m j p (Some s)) (want m j ps (map Some ss)) (Some r.1) t r.4)
          | inr t ↦ let r = all_sorts ps ks ss f'.1 h.1 z.1 j t.1 in (r.0, r.1, r.2, r.3, passed (has_v j p) (wanted m j p (Some s)) (want m j ps (map Some ss)) (Some r.1) t.0 r.4)
        ]

  settled_in : (sides : List Side) → AllByRecursion (Holds g assumed m) sides → (j : ℕ) → has_s j sides ≡ true → (a : ℕ) × (slice_get m.vars j ≡ Some a) × IsSettled (form_at g.nodes) assumed a
  settled_in [] h j e = absurd (cc)
  settled_in (settled b ∷ sides) h j e =
      elim (either_true (j == b) (has_s j sides) e) [
        | inl p ↦ subst (λ (q : ℕ). (a : ℕ) × (slice_get m.vars q ≡ Some a) × IsSettled (form_at g.nodes) assumed a) (sym (eq_is j b p)) h.0
        | inr p ↦ settled_in sides h.1 j p
      ]
  settled_in (not_free b ∷ sides) h j e = settled_in sides h.1 j e
  settled_in (symbols_differ b c ∷ sides) h j e = settled_in sides h.1 j e
  settled_in (kinds_differ b c ∷ sides) h j e = settled_in sides h.1 j e
  settled_in (not_byte b ∷ sides) h j e = settled_in sides h.1 j e
  settled_in (constants_differ b c ∷ sides) h j e = settled_in sides h.1 j e

-- ---- constants

const_has : (view : ℕ → Option (Form ℕ)) (w : World) (x : Input) (i : Index) (o : Op) (a : ℕ) (n : Num) → view a ≡ Some (form o []) → constant_of o ≡ Some n → Value view w x a i (val.Num n)
unfolding strict
const_has view w x i (op.Int n) a m e s = den_makes view w x a i (val.Num m) (op.Int n) [] e ([], tt, ap (λ (q : Num). Some (val.Num q)) (same_Some (num.Int n) m s))
const_has view w x i (op.Long n) a m e s = den_makes view w x a i (val.Num m) (op.Long n) [] e ([], tt, ap (λ (q : Num). Some (val.Num q)) (same_Some (num.Long n) m s))
const_has view w x i o a m e s = absurd (cc)

module _ (view : ℕ → Option (Form ℕ)) (m : Names) where
  mutual
    constant_at : (p : Pattern) (n : ℕ) → Stands view m p n → is_plain p ≡ true → (j : ℕ) → has_k j p ≡ true → (a : ℕ) × (slice_get m.vars j ≡ Some a) × IsConstantAt view a (m.constants j)
    constant_at (constant b) n h f j e = subst (λ (q : ℕ). (a : ℕ) × (slice_get m.vars q ≡ Some a) × IsConstantAt view a (m.constants q)) (sym (eq_is j b e)) (n, h.0, h.1)
    constant_at (over h ps) n d f j e = constants_at ps d.0 d.2 (both_true (is_heap_op h) (are_plain ps) f).1 j e
    constant_at p n h f j e = absurd (cc)

    constants_at : (ps : Patterns) (ks : List ℕ) → StandAll view m ps ks → are_plain ps ≡ true → (j : ℕ) → have_k j ps ≡ true → (a : ℕ) × (slice_get m.vars j ≡ Some a) × IsConstantAt view a (m.constants j)
    constants_at none ks h f j e = absurd (cc)
    constants_at (first p ps) [] h f j e = absurd h
    constants_at (first p ps) (k ∷ ks) h f j e =
        let f' = both_true (is_plain p) (are_plain ps) f in
        elim (either_true (has_k j p) (have_k j ps) e) [ inl t ↦ constant_at p k h.0 f'.0 j t | inr t ↦ constants_at ps ks h.1 f'.1 j t ]

-- ---- the law

unfoldable pub picked : (P : ℕ → Val → Type 0) (o : Option ℕ) → ((a : ℕ) → o ≡ Some a → (u : Val) × P a u) → Val
picked P None f = val.Unit
picked P (Some a) f = (f a refl).0

picked_is : (P : ℕ → Val → Type 0) (o : Option ℕ) (f : (a : ℕ) → o ≡ Some a → (u : Val) × P a u) (a : ℕ) → o ≡ Some a → P a (picked P o f)
unfolding picked
picked_is P None f a e = absurd (cc)
picked_is P (Some b) f a e = subst (λ (q : ℕ). P q ((f b refl).0)) (same_Some b a e) (f b refl).1

-- the sides are plain, or the right one is narrowed; where the right side has a value, all variables of
-- the left side have one, since they stand there, are settled or stand for constants
abbrev pub good : Head → Patterns → Pattern → List Side → Bool
good h ps r sides =
    is_plain (over h ps) && (is_right r && (all_below (variables_of ps) (λ j. have_v j ps) && all_below (variables_of ps) (λ j. has_v j r || (has_s j sides || have_k j ps))))

-- what is known of the variables' values: they are of the sorts that are wanted, in range, constants are
-- what they stand for, and the left side's operation fits
pub record Known (m : Names) (h : Head) (ps : Patterns) (e : ℕ → Val) : Type 0 where
  pub typed : (j : ℕ) → have_v j ps ≡ true → (t : OpSort) × (want m j ps (takes_at m h) ≡ Some t) × IsOf t (e j)
  pub constants : (j : ℕ) → have_k j ps ≡ true → e j ≡ val.Num (m.constants j)
  pub fits : (ss : List OpSort) × (s : OpSort) × (sort_over (head_op m h) ss ≡ Some s)

-- over such values both sides have one value
abbrev pub Equation : Head → Patterns → Pattern → List Side → Type 0
Equation h ps r sides =
    (g : Graph) (assumed : List ℕ) (w : World) (x : Input) (m : Names) (e : ℕ → Val) → Known m h ps e → AllByRecursion (Holds g assumed m) sides
    → (u : Val) × (val_at w x m e (over h ps) ≡ Some u) × (val_at w x m e r ≡ Some u)

below_all : (n : ℕ) (f : ℕ → Bool) → all_below n f ≡ true → (j : ℕ) → j < n → f j ≡ true
below_all zero f e j h = absurd (omega arith)
below_all (suc n) f e j h =
    let y = both_true (f n) (all_below n f) e in
    elim (low_or_last j n h) [ inl s ↦ subst (λ (q : ℕ). f q ≡ true) (sym s) y.0 | inr s ↦ below_all n f y.1 j s ]
  where
    low_or_last : (j n : ℕ) → j < suc n → (j ≡ n) ⊎ (j < n)
    low_or_last j n h = grind arith

all_true : (a b c d : Bool) → (a && (b && (c && d))) ≡ true → (a ≡ true) × (b ≡ true) × (c ≡ true) × (d ≡ true)
all_true true true true true y = (refl, refl, refl, refl)
all_true false b c d y = absurd (cc)
all_true true false c d y = absurd (cc)
all_true true true false d y = absurd (cc)
all_true true true true false y = absurd (cc)

pub heap_law : (n : ℕ) (h : Head) (ps : Patterns) (right_ : Pattern) (sides : List Side) → good h ps right_ sides ≡ true → Equation h ps right_ sides → Law (rule n (over h ps) right_ sides)
heap_law number_ h ps right_ sides ok law g assumed subst_ l r w x set is i u =
    let view = form_at g.nodes in
    let m = is.names in
    let count = variables_of ps in
    let y = all_true (is_plain (over h ps)) (is_right right_) (all_below count (λ j. have_v j ps)) (all_below count (λ j. has_v j right_ || (has_s j sides || have_k j ps))) ok in
    let sorted = kids_sorted g w x assumed set l (head_op m h) is.left.0 is.left.1 in
    let f' = both_true (is_heap_op h) (are_plain ps) y.0 in
    let sort_at = λ (j : ℕ) (t : have_v j ps ≡ true).
    let d = all_sorts g w x assumed set m ps is.left.0 sorted.1 f'.1 is.left.2 sorted.2 j t in
    wants m j sorted.1 sorted.0 f'.0 sorted.3 d in
    let inside = λ (j a : ℕ) (s : slice_get m.vars j ≡ Some a). below_all count (λ j. have_v j ps) y.2 j (under j a s is.long) in
    let sides_are = λ (have : (j a : ℕ) → slice_get m.vars j ≡ Some a → (u : Val) × Value view w x a i u).
    let e = λ (j : ℕ). picked (λ a u. Value view w x a i u) (slice_get m.vars j) (have j) in
    let given = λ (j a : ℕ) (s : slice_get m.vars j ≡ Some a). picked_is (λ a u. Value view w x a i u) (slice_get m.vars j) (have j) a s in
    let known : Known m h ps e = record {
      typed = λ j t. let d = sort_at j t in (d.1, d.4, sort_law g w x d.0 d.1 i (e j) set.made.graph set.sealed set.world set.input d.3 (given j d.0 d.2));
      constants = λ j t. let d = constants_at view m ps is.left.0 is.left.2 f'.1 j t in
          value_once view w x d.0 i (e j) (val.Num (m.constants j)) (given j d.0 d.1) (const_has view w x i d.2.0 d.0 (m.constants j) d.2.1 d.2.2);
      fits = (sorted.1, sorted.0, sorted.3);
    } in
    let z = law g assumed w x m e known is.sides in
    finish z.0 (has_val view w x i m e given (over h ps) l z.0 y.0 is.left z.1) (right_has view w x i m e given right_ r z.0 y.1 is.right z.2) in (
      λ v. (sides_are (λ j a s. let d = vars_have view w x i m (over h ps) l u y.0 is.left v j (inside j a s) in subst (λ (q : ℕ). (u : Val) × Value view w x q i u) (same_at (slice_get m.vars j) d.0 a d.1 s) d.2)).0 v,
      λ v. (sides_are (λ j a s. elim (either_true (has_v j right_) (has_s j sides || have_k j ps) (below_all count (λ j. has_v j right_ || (has_s j sides || have_k j ps)) y.3 j (under j a s is.long))) [
        | inl t ↦ let d = right_vars view w x i m right_ r u y.1 is.right v j t in subst (λ (q : ℕ). (u : Val) × Value view w x q i u) (same_at (slice_get m.vars j) d.0 a d.1 s) d.2
        | inr t ↦ elim (either_true (has_s j sides) (have_k j ps) t) [
          | inl t ↦
              let d = settled_in g w x assumed set m sides is.sides j t in
              let k = sort_at j (inside j a s) in
              let same = same_at (slice_get m.vars j) d.0 a d.1 s in
              let z = settled_has g w x assumed set a k.1 i (subst (λ (q : ℕ). HasSortAt g q k.1) (same_at (slice_get m.vars j) k.0 a k.2 s) k.3) (subst (λ (q : ℕ). IsSettled view assumed q) same d.2) in
              (z.0, z.1)
          | inr t ↦
              let d = constants_at view m ps is.left.0 is.left.2 f'.1 j t in
              subst (λ (q : ℕ). (u : Val) × Value view w x q i u) (same_at (slice_get m.vars j) d.0 a d.1 s) (val.Num (m.constants j), const_has view w x i d.2.0 d.0 (m.constants j) d.2.1 d.2.2)
        ]
      ])).1 v,
    )
  where
    under : (j a : ℕ) → slice_get is.names.vars j ≡ Some a → length is.names.vars ≡ variables_of ps → j < variables_of ps
    under j a s e = let b = slice_get_within is.names.vars j a s in omega arith

    wants : (m : Names) (j : ℕ) (ss : List OpSort) (s : OpSort) → is_heap_op h ≡ true → sort_over (head_op m h) ss ≡ Some s → (a : ℕ) × (t : OpSort) × (slice_get m.vars j ≡ Some a) × HasSortAt g a t × (want m j ps (map Some ss) ≡ Some t)
        → (a : ℕ) × (t : OpSort) × (slice_get m.vars j ≡ Some a) × HasSortAt g a t × (want m j ps (takes_at m h) ≡ Some t)
    wants m j ss s f e r = (r.0, r.1, r.2, r.3, subst (λ (zs : List (Option OpSort)). want m j ps zs ≡ Some r.1) (sym (takes_is m h ss s f e)) r.4)

    finish : (v : Val) → Value (form_at g.nodes) w x l i v → Value (form_at g.nodes) w x r i v → Value (form_at g.nodes) w x l i u ↔ Value (form_at g.nodes) w x r i u
    finish v p q = (
      λ a. subst (λ (y : Val). Value (form_at g.nodes) w x r i y) (value_once (form_at g.nodes) w x l i v u p a) q,
      λ a. subst (λ (y : Val). Value (form_at g.nodes) w x l i y) (value_once (form_at g.nodes) w x r i v u q a) p,
    )
