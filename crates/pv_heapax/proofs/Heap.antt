-- The laws of the heap axioms, by what stands in a heap after a write.
use Rattle.std.specs.Prelude.{◌≡◌, ◌≢◌, ◌⊎◌, ℕ, ℤ, pos, Bool, true, false, List, [], ◌∷◌, Option, Some, None, FitsSigned, if◌then◌else◌, refl}
use Rattle.std.specs.Int.{Width, w8, w16, w32, w64, int_wrap, int_rem_euclid, int_bit_and, cast_unsigned, cast_signed}
use Rattle.std.specs.Ordering.{int_eq, eq_by_cmp}
use Rattle.std.specs.FinMap.{FinMap, get, get-insert, get-remove, same_map}
use Rattle.std.proofs.Common.{cond, inl, inr, sym, ap, ◌∙◌, subst, lit<}
use Rattle.std.proofs.lemmas.Bool.{cases_Bool, both_ways}
use Rattle.std.proofs.lemmas.Bool.Decides.{Decides-int_eq}
use Rattle.std.proofs.lemmas.Int.{int_wrap_fits, of_z-to_z, SFits-int_wrap}
use Rattle.std.proofs.lemmas.Option.{same_Some}
use Rattle.pv_value.specs.Spelled.{bind, field_type}
use Rattle.pv_value.specs.Order.{loc_cmp}
use Rattle.pv_value.specs.Heaps.{read, written}
use Rattle.pv_value.specs.Numbers.{IsRef}
use Rattle.pv_value.specs.Worlds.{is_boolean, home}
use Rattle.pv_value.specs.Narrowing.{kept, shown, element_type}
use Rattle.pv_value.proofs.Cited.{locs_total, exact_places, written_zero, written_other, read_same, read_other}
use Rattle.pv_value.specs.declared.name.Sym.{Sym}
use Rattle.pv_value.specs.declared.heap.Heap.{Heap}
use Rattle.pv_value.specs.declared.heap.Loc.{Loc}
use Rattle.pv_value.specs.declared.heap.Loc.TheVariants.{Static, Field, Elem}
use Rattle.pv_value.specs.declared.heap.Kind.{Kind}
use Rattle.pv_value.specs.declared.heap.Kind.TheVariants as kind
use Rattle.pv_value.specs.declared.descriptor.JType.{JType}
use Rattle.pv_value.specs.declared.descriptor.JType.TheVariants as jtype
use Rattle.pv_value.specs.declared.number.Num.{Num}
use Rattle.pv_value.specs.declared.number.Num.TheVariants as num
use Rattle.pv_value.specs.declared.world.World.{World}
use Rattle.pv_value.specs.declared.outcome.Input.{Input}
use Rattle.pv_value.specs.declared.outcome.Val.{Val}
use Rattle.pv_value.specs.declared.outcome.Val.TheVariants as val
use Rattle.pv_graph.specs.declared.node.Op.TheVariants as op
use Rattle.pv_graph.specs.declared.node.OpSort.{OpSort}
use Rattle.pv_graph.specs.declared.node.OpSort.TheVariants.{I, L, A, H}
use Rattle.pv_graph.specs.Ops.{type_sort, field_sort, kind_sort, sort_over}
use Rattle.pv_denote.specs.Denote.{strict}
use Rattle.pv_denote.specs.Typed.{IsOf}
use Rattle.pv_graph.proofs.Cited.{bind_some}
use Rattle.pv_pattern.specs.Patterns.{by_symbol, by_kind, getstatic, putstatic, getfield, putfield, load, var, constant, narrowed, none, first, settled, symbols_differ, kinds_differ, not_byte, constants_differ}
use Rattle.pv_pattern.specs.Instances.{kind_type}
use Rattle.pv_pattern.specs.Laws.{Laws}
use Rattle.pv_pattern.proofs.Cited.{rem_again, and_one, wrap_wider, byte_fits, short_fits}
use Rattle.pv_denote.proofs.Cited.{low_fits}
use Rattle.pv_heapax.specs.Table.{get_s, put, field_s, put_field, load_k, store_, h, heap_axioms}
use Rattle.pv_heapax.proofs.Plain.{narrowed_val, Equation, heap_law}

-- ---- two writes at one place

abbrev Gives : Loc → ℤ → Option ℤ → Type 0
Gives at n o = (heap : FinMap loc_cmp ℤ) (q : Loc) → get (written heap at n) q ≡ cond (eq_by_cmp loc_cmp q at) o (get heap q)

zero_or_not : (n : ℤ) → (n ≡ pos 0) ⊎ (n ≢ pos 0)
zero_or_not n =
    let decides = Decides-int_eq n (pos 0) in
    elim (cases_Bool (int_eq n (pos 0))) [ inl t ↦ inl (decides.0 t) | inr f ↦ inr (λ e. both_ways (int_eq n (pos 0)) f (decides.1 e)) ]

after_write : (at : Loc) (n : ℤ) → (o : Option ℤ) × Gives at n o
after_write at n = elim (zero_or_not n) [
  | inl zero ↦ (None, λ heap q. ap (λ m. get m q) (written_zero heap at n zero) ∙ get-remove locs_total heap at q)
  | inr other ↦ (Some n, λ heap q. ap (λ m. get m q) (written_other heap at n other) ∙ get-insert locs_total heap at n q)
]

once_more : (b : Bool) (o p q : Option ℤ) → cond b o (cond b p q) ≡ cond b o q
once_more true o p q = refl
once_more false o p q = refl

written_twice : (heap : FinMap loc_cmp ℤ) (at : Loc) (n k : ℤ) → written (written heap at n) at k ≡ written heap at k
written_twice heap at n k =
    let a = after_write at n in
    let b = after_write at k in
    same_map locs_total exact_places (written (written heap at n) at k) (written heap at k)
    (λ q. b.1 (written heap at n) q ∙ ap (cond (eq_by_cmp loc_cmp q at) b.0) (a.1 heap q) ∙ once_more (eq_by_cmp loc_cmp q at) b.0 a.0 (get heap q) ∙ sym (b.1 heap q))

-- ---- what is stored, and read again

-- the number that is read as a type with a sort
abbrev number_as : JType → ℤ → Num
number_as jtype.Z n = num.Int (int_rem_euclid (int_wrap w32 n) (pos 2))
number_as jtype.B n = num.Int (int_wrap w8 (int_wrap w32 n))
number_as jtype.C n = num.Int (int_rem_euclid (int_wrap w32 n) (pos 65536))
number_as jtype.S n = num.Int (int_wrap w16 (int_wrap w32 n))
number_as jtype.I n = num.Int (int_wrap w32 n)
number_as jtype.J n = num.Long n
number_as jtype.A n = num.Ref (cast_unsigned w64 n)
number_as jtype.F n = num.Int n
number_as jtype.D n = num.Int n

shown_is : (ty : JType) (t : OpSort) (n : ℤ) → type_sort ty ≡ Some t → shown ty n ≡ Some (number_as ty n)
shown_is jtype.Z t n e = refl
shown_is jtype.B t n e = refl
shown_is jtype.C t n e = refl
shown_is jtype.S t n e = refl
shown_is jtype.I t n e = refl
shown_is jtype.J t n e = refl
shown_is jtype.A t n e = refl
shown_is jtype.F t n e = absurd (cc)
shown_is jtype.D t n e = absurd (cc)

-- the symbol's field has this type, and numbers are read as it
abbrev Typed : Sym → JType → Type 0
Typed s ty = (field_type s.desc ≡ Some ty) × ((n : ℤ) → shown ty n ≡ Some (number_as ty n))

-- a value of a type is stored as a number, which is read as the narrowed value
abbrev Stored : JType → Val → Type 0
Stored ty u = (n : Num) × (z : ℤ) × (u ≡ val.Num n) × (kept ty n ≡ Some z) × (narrowed_val ty (Some u) ≡ Some (val.Num (number_as ty z)))

int_of : (P : Val → Type 0) → ((n : ℤ) → FitsSigned w32 n → P (val.Num (num.Int n))) → (u : Val) → IsOf I u → P u
int_of P p (val.Num (num.Int n)) h = p n h
int_of P p u h = absurd h

long_of : (P : Val → Type 0) → ((n : ℤ) → FitsSigned w64 n → P (val.Num (num.Long n))) → (u : Val) → IsOf L u → P u
long_of P p (val.Num (num.Long n)) h = p n h
long_of P p u h = absurd h

ref_of : (P : Val → Type 0) → ((r : ℕ) → IsRef r → P (val.Num (num.Ref r))) → (u : Val) → IsOf A u → P u
ref_of P p (val.Num (num.Ref r)) h = p r h
ref_of P p u h = absurd h

abbrev an_int : ℤ → Option Val
an_int n = Some (val.Num (num.Int n))

one_fits : FitsSigned w32 (pos 1)
one_fits = record { sfits = lit< tt }

-- the lowest bit of a number, kept and read again
bit_again : (n : ℤ) → FitsSigned w32 n → int_wrap w32 (int_bit_and w32 n (pos 1)) ≡ int_rem_euclid (int_wrap w32 (int_rem_euclid n (pos 2))) (pos 2)
bit_again n f =
    let g = low_fits n 2 (lit< tt) (lit< tt) in
    ap (int_wrap w32) (and_one n f) ∙ sym (ap (λ (k : ℤ). int_rem_euclid k (pos 2)) (int_wrap_fits w32 (int_rem_euclid n (pos 2)) g) ∙ rem_again n 2 (lit< tt) ∙ sym (int_wrap_fits w32 (int_rem_euclid n (pos 2)) g))

bits_again : (w : Width) (n : ℤ) → FitsSigned w32 (int_wrap w n) → int_wrap w32 (int_wrap w n) ≡ int_wrap w (int_wrap w32 (int_wrap w n))
bits_again w n f = wrap_wider w n f ∙ sym (ap (int_wrap w) (wrap_wider w n f) ∙ int_wrap_fits w (int_wrap w n) (SFits-int_wrap w n))

char_again : (n : ℤ) → int_wrap w32 (int_rem_euclid n (pos 65536)) ≡ int_rem_euclid (int_wrap w32 (int_rem_euclid n (pos 65536))) (pos 65536)
char_again n =
    let g = low_fits n 65536 (lit< tt) (lit< tt) in
    int_wrap_fits w32 (int_rem_euclid n (pos 65536)) g ∙ sym (ap (λ (k : ℤ). int_rem_euclid k (pos 65536)) (int_wrap_fits w32 (int_rem_euclid n (pos 65536)) g) ∙ rem_again n 65536 (lit< tt))

stored : (ty : JType) (t : OpSort) (u : Val) → type_sort ty ≡ Some t → IsOf t u → Stored ty u
stored jtype.Z t u e h = int_of (Stored jtype.Z) (λ n f. (num.Int n, int_rem_euclid n (pos 2), refl, refl, ap an_int (bit_again n f))) u (subst (λ (q : OpSort). IsOf q u) (sym (same_Some I t e)) h)
stored jtype.B t u e h = int_of (Stored jtype.B) (λ n f. (num.Int n, int_wrap w8 n, refl, refl, ap an_int (bits_again w8 n (byte_fits n)))) u (subst (λ (q : OpSort). IsOf q u) (sym (same_Some I t e)) h)
stored jtype.C t u e h = int_of (Stored jtype.C) (λ n f. (num.Int n, int_rem_euclid n (pos 65536), refl, refl, ap an_int (char_again n))) u (subst (λ (q : OpSort). IsOf q u) (sym (same_Some I t e)) h)
stored jtype.S t u e h = int_of (Stored jtype.S) (λ n f. (num.Int n, int_wrap w16 n, refl, refl, ap an_int (bits_again w16 n (short_fits n)))) u (subst (λ (q : OpSort). IsOf q u) (sym (same_Some I t e)) h)
stored jtype.I t u e h = int_of (Stored jtype.I) (λ n f. (num.Int n, n, refl, refl, ap an_int (sym (int_wrap_fits w32 n f)))) u (subst (λ (q : OpSort). IsOf q u) (sym (same_Some I t e)) h)
stored jtype.J t u e h = long_of (Stored jtype.J) (λ n f. (num.Long n, n, refl, refl, refl)) u (subst (λ (q : OpSort). IsOf q u) (sym (same_Some L t e)) h)
stored jtype.A t u e h =
    ref_of (Stored jtype.A) (λ r f. (num.Ref r, cast_signed w64 r, refl, refl, ap (λ (k : ℕ). Some (val.Num (num.Ref k))) (sym (of_z-to_z w64 r f)))) u (subst (λ (q : OpSort). IsOf q u) (sym (same_Some A t e)) h)
stored jtype.F t u e h = absurd (cc)
stored jtype.D t u e h = absurd (cc)

-- ---- values of the sorts that operations want

is_heap : (u : Val) → IsOf H u → (p : Heap) × (u ≡ val.Heap p)
is_heap (val.Heap p) h = (p, refl)
is_heap u h = absurd h

as_heap : (t : OpSort) (u : Val) → Some H ≡ Some t → IsOf t u → (p : Heap) × (u ≡ val.Heap p)
as_heap t u e h = is_heap u (subst (λ (q : OpSort). IsOf q u) (sym (same_Some H t e)) h)

is_ref : (u : Val) → IsOf A u → (r : ℕ) × (u ≡ val.Num (num.Ref r))
is_ref (val.Num (num.Ref r)) h = (r, refl)
is_ref u h = absurd h

as_ref : (t : OpSort) (u : Val) → Some A ≡ Some t → IsOf t u → (r : ℕ) × (u ≡ val.Num (num.Ref r))
as_ref t u e h = is_ref u (subst (λ (q : OpSort). IsOf q u) (sym (same_Some A t e)) h)

is_int : (u : Val) → IsOf I u → (i : ℤ) × (u ≡ val.Num (num.Int i))
is_int (val.Num (num.Int i)) h = (i, refl)
is_int u h = absurd h

as_int : (t : OpSort) (u : Val) → Some I ≡ Some t → IsOf t u → (i : ℤ) × (u ≡ val.Num (num.Int i))
as_int t u e h = is_int u (subst (λ (q : OpSort). IsOf q u) (sym (same_Some I t e)) h)

as_typed : (s : Sym) (t : OpSort) (u : Val) → field_sort s ≡ Some t → IsOf t u → (ty : JType) × Typed s ty × Stored ty u
as_typed s t u e h = let d = bind_some (field_type s.desc) type_sort t e in (d.0, (d.1, λ n. shown_is d.0 t n d.2), stored d.0 t u d.2 h)

byte_sort : (b : Bool) → type_sort (if b then jtype.Z else jtype.B) ≡ Some I
byte_sort true = refl
byte_sort false = refl

elem_sort : (w : World) (k : Kind) (r : ℕ) → type_sort (element_type w k r) ≡ Some (kind_sort k)
elem_sort w kind.Int r = refl
elem_sort w kind.Long r = refl
elem_sort w kind.Ref r = refl
elem_sort w kind.Byte r = byte_sort (is_boolean w r)
elem_sort w kind.Char r = refl
elem_sort w kind.Short r = refl

as_elem : (w : World) (k : Kind) (r : ℕ) (t : OpSort) (u : Val) → Some (kind_sort k) ≡ Some t → IsOf t u → Stored (element_type w k r) u
as_elem w k r t u e h = stored (element_type w k r) t u (elem_sort w k r ∙ e) h

elem_is : (w : World) (k : Kind) (r : ℕ) → k ≢ kind.Byte → element_type w k r ≡ kind_type k
elem_is w kind.Byte r p = absurd (p refl)
elem_is w k r p = refl

-- ---- the operations over such values

number_read : (ty : JType) (k n : ℤ) → k ≡ n → shown ty n ≡ Some (number_as ty n) → bind (shown ty k) (λ m. Some (val.Num m)) ≡ Some (val.Num (number_as ty n))
number_read ty k n e f = ap (λ (o : Option Num). bind o (λ m. Some (val.Num m))) (ap (shown ty) e ∙ f)

module _ (w : World) (x : Input) where
  put_gives : (s : Sym) (u v : Val) (p : Heap) (ty : JType) (n : Num) (z : ℤ) → u ≡ val.Heap p → v ≡ val.Num n → Typed s ty → kept ty n ≡ Some z
      → strict w x (op.PutStatic s) (u ∷ v ∷ []) ≡ Some (val.Heap (written p (Static (home w s)) z))
  unfolding strict
  put_gives s u v p ty n z a b c d = rw (a, b, c.0, d) refl

  field_put_gives : (s : Sym) (u o v : Val) (p : Heap) (r : ℕ) (ty : JType) (n : Num) (z : ℤ) → u ≡ val.Heap p → o ≡ val.Num (num.Ref r) → v ≡ val.Num n → Typed s ty → kept ty n ≡ Some z
      → strict w x (op.PutField s) (u ∷ o ∷ v ∷ []) ≡ Some (val.Heap (written p (Field r (home w s)) z))
  unfolding strict
  field_put_gives s u o v p r ty n z a b c d e = rw (a, b, c, d.0, e) refl

  store_gives : (k : Kind) (u a i v : Val) (p : Heap) (r : ℕ) (j : ℤ) (n : Num) (z : ℤ) → u ≡ val.Heap p → a ≡ val.Num (num.Ref r) → i ≡ val.Num (num.Int j) → v ≡ val.Num n → kept (element_type w k r) n ≡ Some z
      → strict w x (op.Store k) (u ∷ a ∷ i ∷ v ∷ []) ≡ Some (val.Heap (written p (Elem k r j) z))
  unfolding strict
  store_gives k u a i v p r j n z b c d e f = rw (b, c, d, e, f) refl

  get_gives : (s : Sym) (u : Val) (p : Heap) (ty : JType) (n : ℤ) → u ≡ val.Heap p → Typed s ty → read p (Static (home w s)) ≡ n → strict w x (op.GetStatic s) (u ∷ []) ≡ Some (val.Num (number_as ty n))
  unfolding strict
  get_gives s u p ty n a b c = rw (a, b.0) (number_read ty (read p (Static (home w s))) n c (b.1 n))

  field_gives : (s : Sym) (u o : Val) (p : Heap) (r : ℕ) (ty : JType) (n : ℤ) → u ≡ val.Heap p → o ≡ val.Num (num.Ref r) → Typed s ty → read p (Field r (home w s)) ≡ n
      → strict w x (op.GetField s) (u ∷ o ∷ []) ≡ Some (val.Num (number_as ty n))
  unfolding strict
  field_gives s u o p r ty n a b c d = rw (a, b, c.0) (number_read ty (read p (Field r (home w s))) n d (c.1 n))

  load_gives : (k : Kind) (u a i : Val) (p : Heap) (r : ℕ) (j n : ℤ) → u ≡ val.Heap p → a ≡ val.Num (num.Ref r) → i ≡ val.Num (num.Int j) → read p (Elem k r j) ≡ n
      → strict w x (op.Load k) (u ∷ a ∷ i ∷ []) ≡ Some (val.Num (number_as (element_type w k r) n))
  unfolding strict
  load_gives k u a i p r j n b c d e = rw (b, c, d) (number_read (element_type w k r) (read p (Elem k r j)) n e (shown_is (element_type w k r) (kind_sort k) n (elem_sort w k r)))

homes_apart : (w : World) (s t : Sym) → (s.name ≢ t.name) ⊎ (s.desc ≢ t.desc) → home w s ≢ home w t
homes_apart w s t (inl p) e = p (ap (λ (q : Sym). q.name) e)
homes_apart w s t (inr p) e = p (ap (λ (q : Sym). q.desc) e)

static_apart : (a b : Sym) → a ≢ b → Static a ≢ Static b
static_apart a b p e = p (let y : a ≡ b = cc in y)

field_apart : (q r : ℕ) (a b : Sym) → a ≢ b → Field q a ≢ Field r b
field_apart q r a b p e = p (let y : a ≡ b = cc in y)

kind_apart : (k l : Kind) (q r : ℕ) (i j : ℤ) → k ≢ l → Elem k q i ≢ Elem l r j
kind_apart k l q r i j p e = p (let y : k ≡ l = cc in y)

place_apart : (k l : Kind) (q r : ℕ) (i j : ℤ) → i ≢ j → Elem k q i ≢ Elem l r j
place_apart k l q r i j p e = p (let y : i ≡ j = cc in y)

-- the symbol of a read has a type
got_typed : (s : Sym) (ss : List OpSort) (t : OpSort) → sort_over (op.GetStatic s) ss ≡ Some t → (ty : JType) × Typed s ty
got_typed s ss t e = let a = bind_some (field_sort s) _ t e in let b = bind_some (field_type s.desc) type_sort a.0 a.1 in (b.0, (b.1, λ n. shown_is b.0 a.0 n b.2))

field_typed : (s : Sym) (ss : List OpSort) (t : OpSort) → sort_over (op.GetField s) ss ≡ Some t → (ty : JType) × Typed s ty
field_typed s ss t e = let a = bind_some (field_sort s) _ t e in let b = bind_some (field_type s.desc) type_sort a.0 a.1 in (b.0, (b.1, λ n. shown_is b.0 a.0 n b.2))

-- ---- the laws

eq_501 : Equation (getstatic 0) (first (put 0 h (var 1)) none) (narrowed (by_symbol 0) (var 1)) (settled 0 ∷ [])
eq_501 g assumed w x m e k sides =
    let s = m.symbols 0 in
    let a = k.typed 0 refl in
    let b = k.typed 1 refl in
    let p = as_heap a.0 (e 0) a.1 a.2 in
    let v = as_typed s b.0 (e 1) b.1 b.2 in
    let q = put_gives w x s (e 0) (e 1) p.0 v.0 v.2.0 v.2.1 p.1 v.2.2 v.1 v.2.3 in
    let at = Static (home w s) in
    let r = get_gives w x s (val.Heap (written p.0 at v.2.1)) (written p.0 at v.2.1) v.0 v.2.1 refl v.1 (read_same p.0 at v.2.1) in
    (val.Num (number_as v.0 v.2.1), rw q r, rw v.1.0 v.2.4)

eq_502 : Equation (getstatic 0) (first (put 1 h (var 1)) none) (get_s h) (symbols_differ 0 1 ∷ settled 1 ∷ [])
eq_502 g assumed w x m e k sides =
    let s = m.symbols 0 in
    let t = m.symbols 1 in
    let a = k.typed 0 refl in
    let b = k.typed 1 refl in
    let p = as_heap a.0 (e 0) a.1 a.2 in
    let v = as_typed t b.0 (e 1) b.1 b.2 in
    let q = put_gives w x t (e 0) (e 1) p.0 v.0 v.2.0 v.2.1 p.1 v.2.2 v.1 v.2.3 in
    let at = Static (home w t) in
    let ty = got_typed s k.fits.0 k.fits.1 k.fits.2 in
    let to = Static (home w s) in
    let same = read_other p.0 at to v.2.1 (static_apart (home w s) (home w t) (homes_apart w s t sides.0)) in
    (val.Num (number_as ty.0 (read p.0 to)), rw q (get_gives w x s (val.Heap (written p.0 at v.2.1)) (written p.0 at v.2.1) ty.0 (read p.0 to) refl ty.1 same), get_gives w x s (e 0) p.0 ty.0 (read p.0 to) p.1 ty.1 refl)

eq_503 : Equation (getstatic 0) (first (put_field 1 h (var 1) (var 2)) none) (get_s h) (settled 1 ∷ settled 2 ∷ [])
eq_503 g assumed w x m e k sides =
    let s = m.symbols 0 in
    let t = m.symbols 1 in
    let a = k.typed 0 refl in
    let o = k.typed 1 refl in
    let b = k.typed 2 refl in
    let p = as_heap a.0 (e 0) a.1 a.2 in
    let r = as_ref o.0 (e 1) o.1 o.2 in
    let v = as_typed t b.0 (e 2) b.1 b.2 in
    let q = field_put_gives w x t (e 0) (e 1) (e 2) p.0 r.0 v.0 v.2.0 v.2.1 p.1 r.1 v.2.2 v.1 v.2.3 in
    let at = Field r.0 (home w t) in
    let ty = got_typed s k.fits.0 k.fits.1 k.fits.2 in
    let to = Static (home w s) in
    let same = read_other p.0 at to v.2.1 (λ (y : to ≡ at). absurd (cc)) in
    (val.Num (number_as ty.0 (read p.0 to)), rw q (get_gives w x s (val.Heap (written p.0 at v.2.1)) (written p.0 at v.2.1) ty.0 (read p.0 to) refl ty.1 same), get_gives w x s (e 0) p.0 ty.0 (read p.0 to) p.1 ty.1 refl)

eq_504 : Equation (getstatic 0) (first (store_ 0 h (var 1) (var 2) (var 3)) none) (get_s h) (settled 1 ∷ settled 2 ∷ settled 3 ∷ [])
eq_504 g assumed w x m e k sides =
    let s = m.symbols 0 in
    let l = m.kinds 0 in
    let a = k.typed 0 refl in
    let o = k.typed 1 refl in
    let c = k.typed 2 refl in
    let b = k.typed 3 refl in
    let p = as_heap a.0 (e 0) a.1 a.2 in
    let r = as_ref o.0 (e 1) o.1 o.2 in
    let i = as_int c.0 (e 2) c.1 c.2 in
    let v = as_elem w l r.0 b.0 (e 3) b.1 b.2 in
    let q = store_gives w x l (e 0) (e 1) (e 2) (e 3) p.0 r.0 i.0 v.0 v.1 p.1 r.1 i.1 v.2 v.3 in
    let at = Elem l r.0 i.0 in
    let ty = got_typed s k.fits.0 k.fits.1 k.fits.2 in
    let to = Static (home w s) in
    let same = read_other p.0 at to v.1 (λ (y : to ≡ at). absurd (cc)) in
    (val.Num (number_as ty.0 (read p.0 to)), rw q (get_gives w x s (val.Heap (written p.0 at v.1)) (written p.0 at v.1) ty.0 (read p.0 to) refl ty.1 same), get_gives w x s (e 0) p.0 ty.0 (read p.0 to) p.1 ty.1 refl)

eq_505 : Equation (getfield 0) (first (put_field 0 h (var 1) (var 2)) (first (var 1) none)) (narrowed (by_symbol 0) (var 2)) (settled 0 ∷ settled 1 ∷ [])
eq_505 g assumed w x m e k sides =
    let s = m.symbols 0 in
    let a = k.typed 0 refl in
    let o = k.typed 1 refl in
    let b = k.typed 2 refl in
    let p = as_heap a.0 (e 0) a.1 a.2 in
    let r = as_ref o.0 (e 1) o.1 o.2 in
    let v = as_typed s b.0 (e 2) b.1 b.2 in
    let q = field_put_gives w x s (e 0) (e 1) (e 2) p.0 r.0 v.0 v.2.0 v.2.1 p.1 r.1 v.2.2 v.1 v.2.3 in
    let at = Field r.0 (home w s) in
    let f = field_gives w x s (val.Heap (written p.0 at v.2.1)) (e 1) (written p.0 at v.2.1) r.0 v.0 v.2.1 refl r.1 v.1 (read_same p.0 at v.2.1) in
    (val.Num (number_as v.0 v.2.1), rw q f, rw v.1.0 v.2.4)

eq_506 : Equation (getfield 0) (first (put_field 1 h (var 1) (var 2)) (first (var 3) none)) (field_s h (var 3)) (symbols_differ 0 1 ∷ settled 1 ∷ settled 2 ∷ [])
eq_506 g assumed w x m e k sides =
    let s = m.symbols 0 in
    let t = m.symbols 1 in
    let a = k.typed 0 refl in
    let o = k.typed 1 refl in
    let b = k.typed 2 refl in
    let c = k.typed 3 refl in
    let p = as_heap a.0 (e 0) a.1 a.2 in
    let r = as_ref o.0 (e 1) o.1 o.2 in
    let v = as_typed t b.0 (e 2) b.1 b.2 in
    let d = as_ref c.0 (e 3) c.1 c.2 in
    let q = field_put_gives w x t (e 0) (e 1) (e 2) p.0 r.0 v.0 v.2.0 v.2.1 p.1 r.1 v.2.2 v.1 v.2.3 in
    let at = Field r.0 (home w t) in
    let ty = field_typed s k.fits.0 k.fits.1 k.fits.2 in
    let to = Field d.0 (home w s) in
    let same = read_other p.0 at to v.2.1 (field_apart d.0 r.0 (home w s) (home w t) (homes_apart w s t sides.0)) in
    (val.Num (number_as ty.0 (read p.0 to)), rw q (field_gives w x s (val.Heap (written p.0 at v.2.1)) (e 3) (written p.0 at v.2.1) d.0 ty.0 (read p.0 to) refl d.1 ty.1 same), field_gives w x s (e 0) (e 3) p.0 d.0 ty.0 (read p.0 to) p.1 d.1 ty.1 refl)

eq_507 : Equation (getfield 0) (first (put 1 h (var 1)) (first (var 2) none)) (field_s h (var 2)) (settled 1 ∷ [])
eq_507 g assumed w x m e k sides =
    let s = m.symbols 0 in
    let t = m.symbols 1 in
    let a = k.typed 0 refl in
    let b = k.typed 1 refl in
    let c = k.typed 2 refl in
    let p = as_heap a.0 (e 0) a.1 a.2 in
    let v = as_typed t b.0 (e 1) b.1 b.2 in
    let d = as_ref c.0 (e 2) c.1 c.2 in
    let q = put_gives w x t (e 0) (e 1) p.0 v.0 v.2.0 v.2.1 p.1 v.2.2 v.1 v.2.3 in
    let at = Static (home w t) in
    let ty = field_typed s k.fits.0 k.fits.1 k.fits.2 in
    let to = Field d.0 (home w s) in
    let same = read_other p.0 at to v.2.1 (λ (y : to ≡ at). absurd (cc)) in
    (val.Num (number_as ty.0 (read p.0 to)), rw q (field_gives w x s (val.Heap (written p.0 at v.2.1)) (e 2) (written p.0 at v.2.1) d.0 ty.0 (read p.0 to) refl d.1 ty.1 same), field_gives w x s (e 0) (e 2) p.0 d.0 ty.0 (read p.0 to) p.1 d.1 ty.1 refl)

eq_508 : Equation (getfield 0) (first (store_ 0 h (var 1) (var 2) (var 3)) (first (var 4) none)) (field_s h (var 4)) (settled 1 ∷ settled 2 ∷ settled 3 ∷ [])
eq_508 g assumed w x m e k sides =
    let s = m.symbols 0 in
    let l = m.kinds 0 in
    let a = k.typed 0 refl in
    let o = k.typed 1 refl in
    let c = k.typed 2 refl in
    let b = k.typed 3 refl in
    let f = k.typed 4 refl in
    let p = as_heap a.0 (e 0) a.1 a.2 in
    let r = as_ref o.0 (e 1) o.1 o.2 in
    let i = as_int c.0 (e 2) c.1 c.2 in
    let v = as_elem w l r.0 b.0 (e 3) b.1 b.2 in
    let d = as_ref f.0 (e 4) f.1 f.2 in
    let q = store_gives w x l (e 0) (e 1) (e 2) (e 3) p.0 r.0 i.0 v.0 v.1 p.1 r.1 i.1 v.2 v.3 in
    let at = Elem l r.0 i.0 in
    let ty = field_typed s k.fits.0 k.fits.1 k.fits.2 in
    let to = Field d.0 (home w s) in
    let same = read_other p.0 at to v.1 (λ (y : to ≡ at). absurd (cc)) in
    (val.Num (number_as ty.0 (read p.0 to)), rw q (field_gives w x s (val.Heap (written p.0 at v.1)) (e 4) (written p.0 at v.1) d.0 ty.0 (read p.0 to) refl d.1 ty.1 same), field_gives w x s (e 0) (e 4) p.0 d.0 ty.0 (read p.0 to) p.1 d.1 ty.1 refl)

eq_509 : Equation (load 0) (first (store_ 0 h (var 1) (var 2) (var 3)) (first (var 1) (first (var 2) none))) (narrowed (by_kind 0) (var 3)) (not_byte 0 ∷ settled 0 ∷ settled 1 ∷ settled 2 ∷ [])
eq_509 g assumed w x m e k sides =
    let l = m.kinds 0 in
    let a = k.typed 0 refl in
    let o = k.typed 1 refl in
    let c = k.typed 2 refl in
    let b = k.typed 3 refl in
    let p = as_heap a.0 (e 0) a.1 a.2 in
    let r = as_ref o.0 (e 1) o.1 o.2 in
    let i = as_int c.0 (e 2) c.1 c.2 in
    let v = as_elem w l r.0 b.0 (e 3) b.1 b.2 in
    let q = store_gives w x l (e 0) (e 1) (e 2) (e 3) p.0 r.0 i.0 v.0 v.1 p.1 r.1 i.1 v.2 v.3 in
    let at = Elem l r.0 i.0 in
    let f = load_gives w x l (val.Heap (written p.0 at v.1)) (e 1) (e 2) (written p.0 at v.1) r.0 i.0 v.1 refl r.1 i.1 (read_same p.0 at v.1) in
    let same = elem_is w l r.0 sides.0 in
    (val.Num (number_as (element_type w l r.0) v.1), rw q f, subst (λ (y : JType). narrowed_val y (Some (e 3)) ≡ Some (val.Num (number_as (element_type w l r.0) v.1))) same v.4)

eq_510 : Equation (load 0) (first (store_ 1 h (var 1) (var 2) (var 3)) (first (var 4) (first (var 5) none))) (load_k h (var 4) (var 5)) (kinds_differ 0 1 ∷ settled 1 ∷ settled 2 ∷ settled 3 ∷ [])
eq_510 g assumed w x m e k sides =
    let n = m.kinds 0 in
    let l = m.kinds 1 in
    let a = k.typed 0 refl in
    let o = k.typed 1 refl in
    let c = k.typed 2 refl in
    let b = k.typed 3 refl in
    let f = k.typed 4 refl in
    let j = k.typed 5 refl in
    let p = as_heap a.0 (e 0) a.1 a.2 in
    let r = as_ref o.0 (e 1) o.1 o.2 in
    let i = as_int c.0 (e 2) c.1 c.2 in
    let v = as_elem w l r.0 b.0 (e 3) b.1 b.2 in
    let d = as_ref f.0 (e 4) f.1 f.2 in
    let t = as_int j.0 (e 5) j.1 j.2 in
    let q = store_gives w x l (e 0) (e 1) (e 2) (e 3) p.0 r.0 i.0 v.0 v.1 p.1 r.1 i.1 v.2 v.3 in
    let at = Elem l r.0 i.0 in
    let to = Elem n d.0 t.0 in
    let same = read_other p.0 at to v.1 (kind_apart n l d.0 r.0 t.0 i.0 sides.0) in
    (val.Num (number_as (element_type w n d.0) (read p.0 to)), rw q (load_gives w x n (val.Heap (written p.0 at v.1)) (e 4) (e 5) (written p.0 at v.1) d.0 t.0 (read p.0 to) refl d.1 t.1 same), load_gives w x n (e 0) (e 4) (e 5) p.0 d.0 t.0 (read p.0 to) p.1 d.1 t.1 refl)

eq_511 : Equation (load 0) (first (put 1 h (var 1)) (first (var 2) (first (var 3) none))) (load_k h (var 2) (var 3)) (settled 1 ∷ [])
eq_511 g assumed w x m e k sides =
    let n = m.kinds 0 in
    let s = m.symbols 1 in
    let a = k.typed 0 refl in
    let b = k.typed 1 refl in
    let f = k.typed 2 refl in
    let j = k.typed 3 refl in
    let p = as_heap a.0 (e 0) a.1 a.2 in
    let v = as_typed s b.0 (e 1) b.1 b.2 in
    let d = as_ref f.0 (e 2) f.1 f.2 in
    let t = as_int j.0 (e 3) j.1 j.2 in
    let q = put_gives w x s (e 0) (e 1) p.0 v.0 v.2.0 v.2.1 p.1 v.2.2 v.1 v.2.3 in
    let at = Static (home w s) in
    let to = Elem n d.0 t.0 in
    let same = read_other p.0 at to v.2.1 (λ (y : to ≡ at). absurd (cc)) in
    (val.Num (number_as (element_type w n d.0) (read p.0 to)), rw q (load_gives w x n (val.Heap (written p.0 at v.2.1)) (e 2) (e 3) (written p.0 at v.2.1) d.0 t.0 (read p.0 to) refl d.1 t.1 same), load_gives w x n (e 0) (e 2) (e 3) p.0 d.0 t.0 (read p.0 to) p.1 d.1 t.1 refl)

eq_512 : Equation (load 0) (first (put_field 1 h (var 1) (var 2)) (first (var 3) (first (var 4) none))) (load_k h (var 3) (var 4)) (settled 1 ∷ settled 2 ∷ [])
eq_512 g assumed w x m e k sides =
    let n = m.kinds 0 in
    let s = m.symbols 1 in
    let a = k.typed 0 refl in
    let o = k.typed 1 refl in
    let b = k.typed 2 refl in
    let f = k.typed 3 refl in
    let j = k.typed 4 refl in
    let p = as_heap a.0 (e 0) a.1 a.2 in
    let r = as_ref o.0 (e 1) o.1 o.2 in
    let v = as_typed s b.0 (e 2) b.1 b.2 in
    let d = as_ref f.0 (e 3) f.1 f.2 in
    let t = as_int j.0 (e 4) j.1 j.2 in
    let q = field_put_gives w x s (e 0) (e 1) (e 2) p.0 r.0 v.0 v.2.0 v.2.1 p.1 r.1 v.2.2 v.1 v.2.3 in
    let at = Field r.0 (home w s) in
    let to = Elem n d.0 t.0 in
    let same = read_other p.0 at to v.2.1 (λ (y : to ≡ at). absurd (cc)) in
    (val.Num (number_as (element_type w n d.0) (read p.0 to)), rw q (load_gives w x n (val.Heap (written p.0 at v.2.1)) (e 3) (e 4) (written p.0 at v.2.1) d.0 t.0 (read p.0 to) refl d.1 t.1 same), load_gives w x n (e 0) (e 3) (e 4) p.0 d.0 t.0 (read p.0 to) p.1 d.1 t.1 refl)

-- different constants are different places
constants_apart : (a b : Num) (u v : Val) (i j : ℤ) → a ≢ b → u ≡ val.Num a → v ≡ val.Num b → u ≡ val.Num (num.Int i) → v ≡ val.Num (num.Int j) → j ≢ i
constants_apart a b u v i j p c d e f y = p (let z : a ≡ b = cc in z)

eq_513 : Equation (load 0) (first (store_ 0 h (var 1) (constant 2) (var 3)) (first (var 1) (first (constant 4) none))) (load_k h (var 1) (constant 4)) (constants_differ 2 4 ∷ settled 3 ∷ [])
eq_513 g assumed w x m e k sides =
    let l = m.kinds 0 in
    let a = k.typed 0 refl in
    let o = k.typed 1 refl in
    let c = k.typed 2 refl in
    let b = k.typed 3 refl in
    let f = k.typed 4 refl in
    let p = as_heap a.0 (e 0) a.1 a.2 in
    let r = as_ref o.0 (e 1) o.1 o.2 in
    let i = as_int c.0 (e 2) c.1 c.2 in
    let v = as_elem w l r.0 b.0 (e 3) b.1 b.2 in
    let t = as_int f.0 (e 4) f.1 f.2 in
    let q = store_gives w x l (e 0) (e 1) (e 2) (e 3) p.0 r.0 i.0 v.0 v.1 p.1 r.1 i.1 v.2 v.3 in
    let at = Elem l r.0 i.0 in
    let to = Elem l r.0 t.0 in
    let same = read_other p.0 at to v.1 (place_apart l l r.0 r.0 t.0 i.0 (constants_apart (m.constants 2) (m.constants 4) (e 2) (e 4) i.0 t.0 sides.0 (k.constants 2 refl) (k.constants 4 refl) i.1 t.1)) in
    (val.Num (number_as (element_type w l r.0) (read p.0 to)), rw q (load_gives w x l (val.Heap (written p.0 at v.1)) (e 1) (e 4) (written p.0 at v.1) r.0 t.0 (read p.0 to) refl r.1 t.1 same), load_gives w x l (e 0) (e 1) (e 4) p.0 r.0 t.0 (read p.0 to) p.1 r.1 t.1 refl)

eq_514 : Equation (putstatic 0) (first (put 0 h (var 1)) (first (var 2) none)) (put 0 h (var 2)) (settled 1 ∷ [])
eq_514 g assumed w x m e k sides =
    let s = m.symbols 0 in
    let a = k.typed 0 refl in
    let b = k.typed 1 refl in
    let c = k.typed 2 refl in
    let p = as_heap a.0 (e 0) a.1 a.2 in
    let v = as_typed s b.0 (e 1) b.1 b.2 in
    let u = as_typed s c.0 (e 2) c.1 c.2 in
    let q = put_gives w x s (e 0) (e 1) p.0 v.0 v.2.0 v.2.1 p.1 v.2.2 v.1 v.2.3 in
    let at = Static (home w s) in
    let r = put_gives w x s (val.Heap (written p.0 at v.2.1)) (e 2) (written p.0 at v.2.1) u.0 u.2.0 u.2.1 refl u.2.2 u.1 u.2.3 in
    (val.Heap (written p.0 at u.2.1), rw q (r ∙ ap (λ (y : Heap). Some (val.Heap y)) (written_twice p.0 at v.2.1 u.2.1)), put_gives w x s (e 0) (e 2) p.0 u.0 u.2.0 u.2.1 p.1 u.2.2 u.1 u.2.3)

eq_515 : Equation (putfield 0) (first (put_field 0 h (var 1) (var 2)) (first (var 1) (first (var 3) none))) (put_field 0 h (var 1) (var 3)) (settled 2 ∷ [])
eq_515 g assumed w x m e k sides =
    let s = m.symbols 0 in
    let a = k.typed 0 refl in
    let o = k.typed 1 refl in
    let b = k.typed 2 refl in
    let c = k.typed 3 refl in
    let p = as_heap a.0 (e 0) a.1 a.2 in
    let d = as_ref o.0 (e 1) o.1 o.2 in
    let v = as_typed s b.0 (e 2) b.1 b.2 in
    let u = as_typed s c.0 (e 3) c.1 c.2 in
    let q = field_put_gives w x s (e 0) (e 1) (e 2) p.0 d.0 v.0 v.2.0 v.2.1 p.1 d.1 v.2.2 v.1 v.2.3 in
    let at = Field d.0 (home w s) in
    let r = field_put_gives w x s (val.Heap (written p.0 at v.2.1)) (e 1) (e 3) (written p.0 at v.2.1) d.0 u.0 u.2.0 u.2.1 refl d.1 u.2.2 u.1 u.2.3 in
    (val.Heap (written p.0 at u.2.1), rw q (r ∙ ap (λ (y : Heap). Some (val.Heap y)) (written_twice p.0 at v.2.1 u.2.1)), field_put_gives w x s (e 0) (e 1) (e 3) p.0 d.0 u.0 u.2.0 u.2.1 p.1 d.1 u.2.2 u.1 u.2.3)

pub all_laws : Laws heap_axioms
all_laws = (
  heap_law 501 (getstatic 0) (first (put 0 h (var 1)) none) (narrowed (by_symbol 0) (var 1)) (settled 0 ∷ []) refl eq_501,
  (
    heap_law 502 (getstatic 0) (first (put 1 h (var 1)) none) (get_s h) (symbols_differ 0 1 ∷ settled 1 ∷ []) refl eq_502,
    (
      heap_law 503 (getstatic 0) (first (put_field 1 h (var 1) (var 2)) none) (get_s h) (settled 1 ∷ settled 2 ∷ []) refl eq_503,
      (
        heap_law 504 (getstatic 0) (first (store_ 0 h (var 1) (var 2) (var 3)) none) (get_s h) (settled 1 ∷ settled 2 ∷ settled 3 ∷ []) refl eq_504,
        (
          heap_law 505 (getfield 0) (first (put_field 0 h (var 1) (var 2)) (first (var 1) none)) (narrowed (by_symbol 0) (var 2)) (settled 0 ∷ settled 1 ∷ []) refl eq_505,
          (
            heap_law 506 (getfield 0) (first (put_field 1 h (var 1) (var 2)) (first (var 3) none)) (field_s h (var 3)) (symbols_differ 0 1 ∷ settled 1 ∷ settled 2 ∷ []) refl eq_506,
            (
              heap_law 507 (getfield 0) (first (put 1 h (var 1)) (first (var 2) none)) (field_s h (var 2)) (settled 1 ∷ []) refl eq_507,
              (
                heap_law 508 (getfield 0) (first (store_ 0 h (var 1) (var 2) (var 3)) (first (var 4) none)) (field_s h (var 4)) (settled 1 ∷ settled 2 ∷ settled 3 ∷ []) refl eq_508,
                (
                  heap_law 509 (load 0) (first (store_ 0 h (var 1) (var 2) (var 3)) (first (var 1) (first (var 2) none))) (narrowed (by_kind 0) (var 3)) (not_byte 0 ∷ settled 0 ∷ settled 1 ∷ settled 2 ∷ []) refl eq_509,
                  (
                    heap_law 510 (load 0) (first (store_ 1 h (var 1) (var 2) (var 3)) (first (var 4) (first (var 5) none))) (load_k h (var 4) (var 5)) (kinds_differ 0 1 ∷ settled 1 ∷ settled 2 ∷ settled 3 ∷ []) refl eq_510,
                    (
                      heap_law 511 (load 0) (first (put 1 h (var 1)) (first (var 2) (first (var 3) none))) (load_k h (var 2) (var 3)) (settled 1 ∷ []) refl eq_511,
                      (
                        heap_law 512 (load 0) (first (put_field 1 h (var 1) (var 2)) (first (var 3) (first (var 4) none))) (load_k h (var 3) (var 4)) (settled 1 ∷ settled 2 ∷ []) refl eq_512,
                        (
                          heap_law 513 (load 0) (first (store_ 0 h (var 1) (constant 2) (var 3)) (first (var 1) (first (constant 4) none))) (load_k h (var 1) (constant 4)) (constants_differ 2 4 ∷ settled 3 ∷ []) refl eq_513,
                          (
                            heap_law 514 (putstatic 0) (first (put 0 h (var 1)) (first (var 2) none)) (put 0 h (var 2)) (settled 1 ∷ []) refl eq_514,
                            (heap_law 515 (putfield 0) (first (put_field 0 h (var 1) (var 2)) (first (var 1) (first (var 3) none))) (put_field 0 h (var 1) (var 3)) (settled 2 ∷ []) refl eq_515, tt),
                          ),
                        ),
                      ),
                    ),
                  ),
                ),
              ),
            ),
          ),
        ),
      ),
    ),
  ),
)
