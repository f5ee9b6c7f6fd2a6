-- An operation over values of its kids' sorts gives a value of its own sort, or none where it may not end.
use Rattle.std.specs.Prelude.{◌≡◌, ◌⊎◌, ℕ, zero, suc, ℤ, pos, Bool, true, false, map, ◌==◌, List, [], ◌∷◌, Option, Some, None, slice_get, if◌then◌else◌, FitsSigned, refl, negsuc, option_map, ◌<◌, ◌≤◌}
use Rattle.std.specs.Int.{Width, w8, w16, w32, w64, int_wrap, int_rem_euclid, cast_unsigned, cast_signed}
use Rattle.std.specs.Option.{unwrap_or}
use Rattle.std.specs.FinMap.{get}
use Rattle.std.specs.FinSet as set
use Rattle.std.specs.List.{AllZip, AllByRecursion}
use Rattle.std.proofs.Common.{inl, inr, sym, ap, ◌∙◌, subst, arith, lit<, lit≤}
use Rattle.std.proofs.Math.Facts.{Fits-of_z, sfits_to_z}
use Rattle.std.proofs.Math.Nat.{lt_of_lt_of_le, mod-lt}
use Rattle.std.proofs.Math.Pow.{pow_mono}
use mir.Val.{hbits}
use Rattle.std.proofs.lemmas.Int.{SFits-int_wrap}
use Rattle.pv_value.specs.Spelled.{bind, field_type, method_type}
use Rattle.pv_value.specs.Numbers.{IsRef, IsNum}
use Rattle.pv_value.specs.Heaps.{IsHeap, IsLoc, read, written}
use Rattle.pv_value.specs.Inputs.{IsInput, IsOfSort, IsOfResult}
use Rattle.pv_value.specs.Worlds.{IsWorld, IsReply}
use Rattle.pv_value.specs.Operations.{Word, int, long, takes, gives, scalar_of, IsOfWord}
use Rattle.pv_value.proofs.Cited.{scalar_fits, method_type_once, method_spelled, IsHeap-written}
use Rattle.pv_value.specs.Worlds as worlds
use Rattle.pv_value.specs.Worlds.{length_of, literal_of}
use Rattle.pv_value.specs.Narrowing.{narrowed, heap_number, kept, shown, element_type, static_place, field_place, read_as, written_as}
use Rattle.pv_value.specs.declared.world.World.{World}
use Rattle.pv_value.specs.declared.name.Sym.{Sym}
use Rattle.pv_value.specs.declared.heap.Heap.{Heap}
use Rattle.pv_value.specs.declared.heap.Kind.{Kind}
use Rattle.pv_value.specs.declared.heap.Kind.TheVariants as kind
use Rattle.pv_value.specs.declared.heap.Loc.{Loc}
use Rattle.pv_value.specs.declared.heap.Loc.TheVariants.{Elem}
use Rattle.pv_value.specs.declared.descriptor.JType.{JType}
use Rattle.pv_value.specs.declared.descriptor.JType.TheVariants as jtype
use Rattle.pv_value.specs.declared.descriptor.Descriptor.{Descriptor}
use Rattle.pv_value.specs.declared.operation.ScalarOp.{ScalarOp}
use Rattle.pv_value.specs.declared.operation.ScalarOp.TheVariants.{Iadd}
use Rattle.pv_value.specs.declared.number.Num.{Num}
use Rattle.pv_value.specs.declared.number.Num.TheVariants as num
use Rattle.pv_value.specs.declared.outcome.Input.{Input}
use Rattle.pv_value.specs.declared.outcome.Outcome.{Outcome}
use Rattle.pv_value.specs.declared.outcome.Outcome.TheVariants.{Returned, Threw}
use Rattle.pv_value.specs.declared.outcome.Fault.TheVariants as fault
use Rattle.pv_value.specs.declared.outcome.Val.{Val}
use Rattle.pv_value.specs.declared.outcome.Val.TheVariants as val
use Rattle.pv_graph.specs.declared.node.Op.{Op}
use Rattle.pv_graph.specs.declared.node.Op.TheVariants as op
use Rattle.pv_graph.specs.declared.node.OpSort.{OpSort}
use Rattle.pv_graph.specs.declared.node.OpSort.TheVariants.{I, L, A, N, F, T, H}
use Rattle.pv_graph.specs.Ops.{plain, shape, exactly, param_sort, word_sort, type_sort, kind_sort, field_sort, type_sorts, result_sort, CallSorts, call_sorts, sort_over, may_not_end}
use Rattle.pv_denote.specs.Denote.{number_of, param_of, is_clear, same_ref, operand, num_of, scalar_on, scalar_value, numbers, default_of, reply_result, reply_fault, reply_heap, end_part, result_part, fault_part, heap_part, over_call, strict}
use Rattle.pv_denote.specs.Typed.{IsFault, IsOf}
use Rattle.pv_graph.specs.Graphs.{IsRanged}
use Rattle.pv_graph.proofs.Cited.{bind_some, exactly_are}

-- ---- results

-- there is a value of the sort; or none, where there may be none
abbrev pub Gives : Bool → OpSort → Option Val → Type 0
Gives may_stop s o = ((may_stop ≡ true) × (o ≡ None)) ⊎ ((v : Val) × (o ≡ Some v) × IsOf s v)

given : (b : Bool) (s : OpSort) (v : Val) → IsOf s v → Gives b s (Some v)
given b s v h = inr (v, refl, h)

-- an operation of these sorts, over any values of the sorts that it takes
over_exactly : (o : Op) (f : List Val → Option Val) (ts : List OpSort) (t : OpSort) (ss : List OpSort) (s : OpSort) (vs : List Val) → exactly ts t ss ≡ Some s → AllZip IsOf ss vs
    → ((us : List Val) → AllZip IsOf ts us → Gives (may_not_end o) t (f us)) → Gives (may_not_end o) s (f vs)
over_exactly o f ts t ss s vs e h p =
    let both = exactly_are ts t ss s e in
    subst (λ (z : OpSort). Gives (may_not_end o) z (f vs)) both.1 (p vs (subst (λ (zs : List OpSort). AllZip IsOf zs vs) (sym both.0) h))

none_of : (b : Bool) (s : OpSort) (f : List Val → Option Val) (vs : List Val) → AllZip IsOf [] vs → Gives b s (f []) → Gives b s (f vs)
none_of b s f [] h g = g
none_of b s f (v ∷ vs) h g = absurd h

-- ---- numbers

zero_int : FitsSigned w32 (pos 0)
zero_int = record { sfits = lit< tt }

one_int : FitsSigned w32 (pos 1)
one_int = record { sfits = lit< tt }

zero_long : FitsSigned w64 (pos 0)
zero_long = record { sfits = lit< tt }

null_fits : IsRef 0
null_fits = lit< tt

-- an argument of its sort
param_is : (s p : OpSort) (n : Option Num) → param_sort s ≡ Some p → ((m : Num) → n ≡ Some m → IsNum m) → IsOf p (val.Num (number_of s n))
param_is I p (Some (num.Int n)) e h = subst (λ (q : OpSort). IsOf q (val.Num (num.Int n))) (let z : I ≡ p = cc in z) (h (num.Int n) refl)
param_is I p n e h = subst (λ (q : OpSort). IsOf q (val.Num (num.Int (pos 0)))) (let z : I ≡ p = cc in z) zero_int
param_is L p (Some (num.Long n)) e h = subst (λ (q : OpSort). IsOf q (val.Num (num.Long n))) (let z : L ≡ p = cc in z) (h (num.Long n) refl)
param_is L p n e h = subst (λ (q : OpSort). IsOf q (val.Num (num.Long (pos 0)))) (let z : L ≡ p = cc in z) zero_long
param_is A p (Some (num.Ref r)) e h = subst (λ (q : OpSort). IsOf q (val.Num (num.Ref r))) (let z : A ≡ p = cc in z) (h (num.Ref r) refl)
param_is A p n e h = subst (λ (q : OpSort). IsOf q (val.Num (num.Ref 0))) (let z : A ≡ p = cc in z) null_fits
param_is s p n e h = absurd (cc)

nth_of : {X : Type 0} (P : X → Type 0) (xs : List X) → AllByRecursion P xs → (j : ℕ) (y : X) → slice_get xs j ≡ Some y → P y
nth_of P [] h j y e = absurd (let z = e in cc)
nth_of P (x ∷ xs) h zero y e = subst P (let z : x ≡ y = cc in z) h.0
nth_of P (x ∷ xs) h (suc j) y e = nth_of P xs h.1 j y e

-- an operation on numbers
operand_is : (s : Word) (v : Val) → IsOf (word_sort s) v → (n : ℤ) × (operand s v ≡ Some n) × IsOfWord s n
operand_is int (val.Num (num.Int n)) h = (n, refl, h)
operand_is long (val.Num (num.Long n)) h = (n, refl, h)
operand_is int v h = absurd h
operand_is long v h = absurd h

num_of_is : (s : Word) (n : ℤ) → IsOfWord s n → IsOf (word_sort s) (val.Num (num_of s n))
num_of_is int n h = h
num_of_is long n h = h

scalar_on_is : (o : ScalarOp) (ss : List Word) (vs : List Val) → AllZip IsOf (map word_sort ss) vs → ((a b : ℤ) → IsOfWord (gives o) (scalar_of o a b))
    → ((s : Word) × (ss ≡ s ∷ [])) ⊎ ((s t : Word) × (ss ≡ s ∷ t ∷ [])) → (n : ℤ) × (scalar_on o ss vs ≡ Some n) × IsOfWord (gives o) n
scalar_on_is o [] vs h p (inl k) = absurd (let z = k.1 in cc)
scalar_on_is o [] vs h p (inr k) = absurd (let z = k.2 in cc)
scalar_on_is o (s ∷ []) [] h p k = absurd h
scalar_on_is o (s ∷ []) (u ∷ []) h p k = let a = operand_is s u h.0 in (scalar_of o a.0 (pos 0), rw a.1 refl, p a.0 (pos 0))
scalar_on_is o (s ∷ []) (u ∷ v ∷ vs) h p k = absurd h.1
scalar_on_is o (s ∷ t ∷ []) [] h p k = absurd h
scalar_on_is o (s ∷ t ∷ []) (u ∷ []) h p k = absurd h.1
scalar_on_is o (s ∷ t ∷ []) (u ∷ v ∷ []) h p k =
    let a = operand_is s u h.0 in
    let b = operand_is t v h.1.0 in
    (scalar_of o a.0 b.0, rw (a.1, b.1) refl, p a.0 b.0)
scalar_on_is o (s ∷ t ∷ []) (u ∷ v ∷ x ∷ vs) h p k = absurd h.1.1
scalar_on_is o (s ∷ t ∷ r ∷ ss) vs h p (inl k) = absurd (let z = k.1 in cc)
scalar_on_is o (s ∷ t ∷ r ∷ ss) vs h p (inr k) = absurd (let z = k.2 in cc)

abbrev is_few : List Word → Bool
is_few (s ∷ []) = true
is_few (s ∷ t ∷ []) = true
is_few ss = false

takes_few : (o : ScalarOp) → is_few (takes o) ≡ true
takes_few Iadd = refl
takes_few o = refl

few_words : (ss : List Word) → is_few ss ≡ true → ((s : Word) × (ss ≡ s ∷ [])) ⊎ ((s t : Word) × (ss ≡ s ∷ t ∷ []))
few_words [] e = absurd (cc)
few_words (s ∷ []) e = inl (s, refl)
few_words (s ∷ t ∷ []) e = inr (s, t, refl)
few_words (s ∷ t ∷ r ∷ ss) e = absurd (cc)

-- an operation takes one number or two
few_operands : (o : ScalarOp) → ((s : Word) × (takes o ≡ s ∷ [])) ⊎ ((s t : Word) × (takes o ≡ s ∷ t ∷ []))
few_operands o = few_words (takes o) (takes_few o)

scalar_is : (o : ScalarOp) (us : List Val) → AllZip IsOf (map word_sort (takes o)) us → Gives false (word_sort (gives o)) (scalar_value o us)
scalar_is o us h =
    let n = scalar_on_is o (takes o) us h (scalar_fits o) (few_operands o) in
    inr (val.Num (num_of (gives o) n.0), rw n.1 refl, num_of_is (gives o) n.0 n.2)

-- ---- the heap

pub wider : (w v : Width) (n : ℤ) → hbits w ≤ hbits v → FitsSigned w n → FitsSigned v n
wider w v n h f = record { sfits = lt_of_lt_of_le f.sfits (pow_mono h) }

-- the low bits of a number, as many as fit a char
pub low_fits : (n : ℤ) (d : ℕ) → 0 < d → d < 65537 → FitsSigned w32 (int_rem_euclid n (pos d))
low_fits (pos a) d z h = let m = mod-lt a z in record { sfits = lt_of_lt_of_le m (omega arith) }
low_fits (negsuc a) d z h = record { sfits = omega arith }

narrowed_fits : (t : JType) (n m : ℤ) → FitsSigned w32 n → narrowed t n ≡ Some m → FitsSigned w32 m
narrowed_fits jtype.Z n m h e = subst (FitsSigned w32) (let z : int_rem_euclid n (pos 2) ≡ m = cc in z) (low_fits n 2 (lit< tt) (lit< tt))
narrowed_fits jtype.B n m h e = subst (FitsSigned w32) (let z : int_wrap w8 n ≡ m = cc in z) (wider w8 w32 (int_wrap w8 n) (lit≤ tt) (SFits-int_wrap w8 n))
narrowed_fits jtype.C n m h e = subst (FitsSigned w32) (let z : int_rem_euclid n (pos 65536) ≡ m = cc in z) (low_fits n 65536 (lit< tt) (lit< tt))
narrowed_fits jtype.S n m h e = subst (FitsSigned w32) (let z : int_wrap w16 n ≡ m = cc in z) (wider w16 w32 (int_wrap w16 n) (lit≤ tt) (SFits-int_wrap w16 n))
narrowed_fits jtype.I n m h e = subst (FitsSigned w32) (let z : n ≡ m = cc in z) h
narrowed_fits t n m h e = absurd (cc)

int_wide : (n : ℤ) → FitsSigned w32 n → FitsSigned w64 n
int_wide n h = let f = h.sfits in record { sfits = omega arith }

unsigned_is : (n : ℤ) → FitsSigned w64 n → IsRef (cast_unsigned w64 n)
unsigned_is n h = (Fits-of_z h).fits

-- the types of ints
abbrev is_int : JType → Bool
is_int jtype.J = false
is_int jtype.A = false
is_int jtype.F = false
is_int jtype.D = false
is_int t = true

int_narrowed : (t : JType) → is_int t ≡ true → (n : ℤ) → (m : ℤ) × (narrowed t n ≡ Some m)
int_narrowed jtype.J e n = absurd (cc)
int_narrowed jtype.A e n = absurd (cc)
int_narrowed jtype.F e n = absurd (cc)
int_narrowed jtype.D e n = absurd (cc)
int_narrowed t e n = (_, refl)

read_fits : (h : Heap) (at : Loc) → IsHeap h → FitsSigned w64 (read h at)
read_fits h at heap = go (get h at) refl
  where
    go : (o : Option ℤ) → get h at ≡ o → FitsSigned w64 (unwrap_or o (pos 0))
    go None e = zero_long
    go (Some n) e = (heap at n e).number

-- what is read as a type is of its sort
shown_is : (t : JType) (s : OpSort) (n : ℤ) → type_sort t ≡ Some s → FitsSigned w64 n → (m : Num) × (shown t n ≡ Some m) × IsOf s (val.Num m)
shown_is jtype.J s n e h = (num.Long n, refl, subst (λ (q : OpSort). IsOf q (val.Num (num.Long n))) (let z : L ≡ s = cc in z) h)
shown_is jtype.A s n e h = (num.Ref (cast_unsigned w64 n), refl, subst (λ (q : OpSort). IsOf q (val.Num (num.Ref (cast_unsigned w64 n)))) (let z : A ≡ s = cc in z) (unsigned_is n h))
shown_is jtype.F s n e h = absurd (cc)
shown_is jtype.D s n e h = absurd (cc)
shown_is t s n e h =
    let m = int_narrowed t refl (int_wrap w32 n) in
    let f = narrowed_fits t (int_wrap w32 n) m.0 (SFits-int_wrap w32 n) m.1 in
    (num.Int m.0, ap (option_map num.Int) m.1, subst (λ (q : OpSort). IsOf q (val.Num (num.Int m.0))) (let z : I ≡ s = cc in z) f)

read_is : (t : JType) (s : OpSort) (h : Heap) (at : Loc) → type_sort t ≡ Some s → IsHeap h → (m : Num) × (read_as t h at ≡ Some m) × IsOf s (val.Num m)
read_is t s h at e heap = shown_is t s (read h at) e (read_fits h at heap)

kept_is : (t : JType) (s : OpSort) (v : Num) → type_sort t ≡ Some s → IsOf s (val.Num v) → (m : ℤ) × (kept t v ≡ Some m) × FitsSigned w64 m
kept_is t s v e h = go t v s h e
  where
    int_kept : (t : JType) (v : Num) → is_int t ≡ true → IsOf I (val.Num v) → (m : ℤ) × (kept t v ≡ Some m) × FitsSigned w64 m
    int_kept t (num.Int n) i h =
        let m = int_narrowed t i n in
        (m.0, ap (λ (o : Option ℤ). option_map heap_number (option_map num.Int o)) m.1, int_wide m.0 (narrowed_fits t n m.0 h m.1))
    int_kept t v i h = absurd h

    long_kept : (v : Num) → IsOf L (val.Num v) → (m : ℤ) × (kept jtype.J v ≡ Some m) × FitsSigned w64 m
    long_kept (num.Long n) h = (n, refl, h)
    long_kept v h = absurd h

    ref_kept : (v : Num) → IsOf A (val.Num v) → (m : ℤ) × (kept jtype.A v ≡ Some m) × FitsSigned w64 m
    ref_kept (num.Ref r) h = (cast_signed w64 r, refl, sfits_to_z (record { fits = h }))
    ref_kept v h = absurd h

    go : (t : JType) (v : Num) (s : OpSort) → IsOf s (val.Num v) → type_sort t ≡ Some s → (m : ℤ) × (kept t v ≡ Some m) × FitsSigned w64 m
    go jtype.J v s h e = long_kept v (subst (λ (q : OpSort). IsOf q (val.Num v)) (let z : s ≡ L = cc in z) h)
    go jtype.A v s h e = ref_kept v (subst (λ (q : OpSort). IsOf q (val.Num v)) (let z : s ≡ A = cc in z) h)
    go jtype.F v s h e = absurd (cc)
    go jtype.D v s h e = absurd (cc)
    go t v s h e = int_kept t v refl (subst (λ (q : OpSort). IsOf q (val.Num v)) (let z : s ≡ I = cc in z) h)

-- a write of a number of the type's sort
written_is : (t : JType) (s : OpSort) (h : Heap) (at : Loc) (v : Num) → type_sort t ≡ Some s → IsOf s (val.Num v) → IsHeap h → IsLoc at → (m : Heap) × (written_as t h at v ≡ Some m) × IsHeap m
written_is t s h at v e is heap place =
    let n = kept_is t s v e is in
    (written h at n.0, ap (option_map (written h at)) n.1, IsHeap-written h at n.0 heap place n.2)

elem_sort : (w : World) (k : Kind) (r : ℕ) → type_sort (element_type w k r) ≡ Some (kind_sort k)
elem_sort w kind.Int r = refl
elem_sort w kind.Long r = refl
elem_sort w kind.Ref r = refl
elem_sort w kind.Byte r = byte (set.contains w.booleans r)
  where
    byte : (t : Bool) → type_sort (if t then jtype.Z else jtype.B) ≡ Some I
    byte true = refl
    byte false = refl
elem_sort w kind.Char r = refl
elem_sort w kind.Short r = refl

-- ---- calls

-- a value of a type's sort is a number of it
number_only : (t : JType) (s : OpSort) (v : Val) → type_sort t ≡ Some s → IsOf s v → (n : Num) × (v ≡ val.Num n)
number_only t s v e h = go t s v h e
  where
    int_only : (v : Val) → IsOf I v → (n : Num) × (v ≡ val.Num n)
    int_only (val.Num n) h = (n, refl)
    int_only v h = absurd h

    long_only : (v : Val) → IsOf L v → (n : Num) × (v ≡ val.Num n)
    long_only (val.Num n) h = (n, refl)
    long_only v h = absurd h

    ref_only : (v : Val) → IsOf A v → (n : Num) × (v ≡ val.Num n)
    ref_only (val.Num n) h = (n, refl)
    ref_only v h = absurd h

    go : (t : JType) (s : OpSort) (v : Val) → IsOf s v → type_sort t ≡ Some s → (n : Num) × (v ≡ val.Num n)
    go jtype.J s v h e = long_only v (subst (λ (q : OpSort). IsOf q v) (let z : s ≡ L = cc in z) h)
    go jtype.A s v h e = ref_only v (subst (λ (q : OpSort). IsOf q v) (let z : s ≡ A = cc in z) h)
    go jtype.F s v h e = absurd (cc)
    go jtype.D s v h e = absurd (cc)
    go t s v h e = int_only v (subst (λ (q : OpSort). IsOf q v) (let z : s ≡ I = cc in z) h)

numbers_more : (v : Val) (n : Num) (vs : List Val) (ns : List Num) → v ≡ val.Num n → numbers vs ≡ Some ns → numbers (v ∷ vs) ≡ Some (n ∷ ns)
numbers_more v n vs ns e f = rw (e, f) refl

-- arguments of the types' sorts are numbers
numbers_are : (ts : List JType) (ss : List OpSort) (vs : List Val) → type_sorts ts ≡ Some ss → AllZip IsOf ss vs → (ns : List Num) × (numbers vs ≡ Some ns)
numbers_are [] ss vs e h = none vs (subst (λ (z : List OpSort). AllZip IsOf z vs) (let y : ss ≡ [] = cc in y) h)
  where
    none : (vs : List Val) → AllZip IsOf [] vs → (ns : List Num) × (numbers vs ≡ Some ns)
    none [] h = ([], refl)
    none (v ∷ vs) h = absurd h
numbers_are (t ∷ ts) ss vs e h =
    let a = bind_some (type_sort t) _ ss e in
    let b = bind_some (type_sorts ts) _ ss a.2 in
    some a.0 b.0 vs a.1 (λ us z. numbers_are ts b.0 us b.1 z) (subst (λ (z : List OpSort). AllZip IsOf z vs) (let z = b.2 in let y : ss ≡ a.0 ∷ b.0 = cc in y) h)
  where
    some : (s : OpSort) (ss : List OpSort) (vs : List Val) → type_sort t ≡ Some s → ((us : List Val) → AllZip IsOf ss us → (ns : List Num) × (numbers us ≡ Some ns)) → AllZip IsOf (s ∷ ss) vs → (ns : List Num) × (numbers vs ≡ Some ns)
    some s ss [] e p h = absurd h
    some s ss (v ∷ vs) e p h =
        let n = number_only t s v e h.0 in
        let ns = p vs h.1 in
        (n.0 ∷ ns.0, numbers_more v n.0 vs ns.0 n.1 ns.1)

-- what the sorts of a call are made of
record CallType (s : Sym) (c : CallSorts) : Type 0 where
  d : Descriptor
  params : List OpSort
  of : method_type s.desc ≡ Some d
  params_are : type_sorts d.params ≡ Some params
  result_is : result_sort d.result ≡ Some c.result
  kids_are : c.kids ≡ H ∷ params

call_type : (s : Sym) (c : CallSorts) → call_sorts s ≡ Some c → CallType s c
call_type s c e =
    let a = bind_some (method_type s.desc) _ c e in
    let b = bind_some (type_sorts a.0.params) _ c a.2 in
    let r = bind_some (result_sort a.0.result) _ c b.2 in
    let same : record { kids = H ∷ b.0; result = r.0 } ≡ c = (let z = r.2 in cc) in
    record { d = a.0; params = b.0; of = a.1; params_are = b.1; result_is = r.1 ∙ ap (λ (z : CallSorts). Some z.result) same; kids_are = ap (λ (z : CallSorts). z.kids) (sym same) }

-- the replies of a world are those of the table
reply_known : (w : World) → IsWorld w → (s : Sym) (h : Heap) (args : List Num) (o : Outcome) → worlds.reply w s h args ≡ Some o → IsReply s o
reply_known w world s h args o e = (world.calls (record { sym = s; heap = h; args = args }) o e).reply

-- a part of a call gives a value of the sort, whatever the table says
call_gives : (w : World) → IsWorld w → (s : Sym) (c : CallSorts) → call_sorts s ≡ Some c → (b : Bool) (t : OpSort) (part : Option Outcome → Heap → Option Val)
    → ((reply : Option Outcome) (h : Heap) → IsHeap h → ((o : Outcome) → reply ≡ Some o → IsReply s o) → Gives b t (part reply h)) → (vs : List Val) → AllZip IsOf c.kids vs → Gives b t (over_call w s part vs)
call_gives w world s c e b t part p vs h =
    let k = call_type s c e in
    go k vs (subst (λ (z : List OpSort). AllZip IsOf z vs) k.kids_are h)
  where
    go : (k : CallType s c) (vs : List Val) → AllZip IsOf (H ∷ k.params) vs → Gives b t (over_call w s part vs)
    go k [] z = absurd z
    go k (val.Heap m ∷ vs) z =
        let ns = numbers_are k.d.params k.params vs k.params_are z.1 in
        subst (λ (q : Option (List Num)). Gives b t (bind q (λ args. part (worlds.reply w s m args) m))) (sym ns.1) (p (worlds.reply w s m ns.0) m z.0 (reply_known w world s m ns.0))
    go k (v ∷ vs) z = absurd (assumption)

default_is : (t : JType) (s : OpSort) → type_sort t ≡ Some s → IsOf s (val.Num (default_of t))
default_is jtype.J s e = subst (λ (q : OpSort). IsOf q (val.Num (default_of jtype.J))) (let z : L ≡ s = cc in z) zero_long
default_is jtype.A s e = subst (λ (q : OpSort). IsOf q (val.Num (default_of jtype.A))) (let z : A ≡ s = cc in z) null_fits
default_is jtype.F s e = absurd (cc)
default_is jtype.D s e = absurd (cc)
default_is t s e = subst (λ (q : OpSort). IsOf q (val.Num (default_of t))) (let z : I ≡ s = cc in z) zero_int

-- a number of a type is a value of its sort
of_sort : (t : JType) (s : OpSort) (n : Num) → type_sort t ≡ Some s → IsOfSort t n → IsOf s (val.Num n)
of_sort t s n e h = go t n s h e
  where
    go : (t : JType) (n : Num) (s : OpSort) → IsOfSort t n → type_sort t ≡ Some s → IsOf s (val.Num n)
    go jtype.J (num.Long n) s h e = subst (λ (q : OpSort). IsOf q (val.Num (num.Long n))) (let z : L ≡ s = cc in z) h
    go jtype.A (num.Ref r) s h e = subst (λ (q : OpSort). IsOf q (val.Num (num.Ref r))) (let z : A ≡ s = cc in z) h
    go jtype.Z (num.Int n) s h e = subst (λ (q : OpSort). IsOf q (val.Num (num.Int n))) (let z : I ≡ s = cc in z) h
    go jtype.B (num.Int n) s h e = subst (λ (q : OpSort). IsOf q (val.Num (num.Int n))) (let z : I ≡ s = cc in z) h
    go jtype.C (num.Int n) s h e = subst (λ (q : OpSort). IsOf q (val.Num (num.Int n))) (let z : I ≡ s = cc in z) h
    go jtype.S (num.Int n) s h e = subst (λ (q : OpSort). IsOf q (val.Num (num.Int n))) (let z : I ≡ s = cc in z) h
    go jtype.I (num.Int n) s h e = subst (λ (q : OpSort). IsOf q (val.Num (num.Int n))) (let z : I ≡ s = cc in z) h
    go t n s h e = absurd h

result_gives : (sy : Sym) (d : Descriptor) (t : JType) (s : OpSort) (reply : Option Outcome) → method_type sy.desc ≡ Some d → d.result ≡ Some t → type_sort t ≡ Some s → ((o : Outcome) → reply ≡ Some o → IsReply sy o) → IsOf s (val.Num (reply_result t reply))
result_gives sy d t s (Some (Returned (Some n) h)) of is e p =
    let r = p (Returned (Some n) h) refl in
    let same : r.0.0 ≡ d = method_type_once sy.desc r.0.0 d r.0.1 ((method_spelled sy.desc d).0 of) in
    let result : r.0.0.result ≡ Some t = ap (λ (q : Descriptor). q.result) same ∙ is in
    of_sort t s n e (subst (λ (q : Option JType). IsOfResult q (Some n)) result r.0.2)
result_gives sy d t s reply of is e p = default_is t s e

part_gives : (sy : Sym) (d : Descriptor) (t : JType) (s : OpSort) (reply : Option Outcome) (read : Option Descriptor) → read ≡ Some d → d.result ≡ Some t → IsOf s (val.Num (reply_result t reply))
    → Gives false s (bind read (λ d. bind d.result (λ t. Some (val.Num (reply_result t reply)))))
part_gives sy d t s reply read of is h = rw of (rw is (given false s (val.Num (reply_result t reply)) h))

fault_gives : (sy : Sym) (reply : Option Outcome) → ((o : Outcome) → reply ≡ Some o → IsReply sy o) → IsFault (reply_fault reply)
fault_gives sy (Some (Threw (fault.Thrown r) h)) p = (p (Threw (fault.Thrown r) h) refl).0
fault_gives sy reply p = tt

heap_gives : (sy : Sym) (reply : Option Outcome) (h : Heap) → IsHeap h → ((o : Outcome) → reply ≡ Some o → IsReply sy o) → IsHeap (reply_heap h reply)
heap_gives sy (Some (Returned r m)) h heap p = (p (Returned r m) refl).1
heap_gives sy (Some (Threw (fault.Thrown r) m)) h heap p = (p (Threw (fault.Thrown r) m) refl).1
heap_gives sy (Some (Threw f m)) h heap p = absurd (p (Threw f m) refl)
heap_gives sy None h heap p = heap

end_gives : (reply : Option Outcome) → Gives true T (bind reply (λ o. Some val.Unit))
end_gives None = inl (refl, refl)
end_gives (Some o) = given true T val.Unit tt

some_result : (r : Option JType) (q : Option OpSort) (s : OpSort) → result_sort r ≡ Some q → q ≡ Some s → (t : JType) × (r ≡ Some t) × (type_sort t ≡ Some s)
some_result None q s e f = absurd (cc)
some_result (Some t) q s e f = let a = bind_some (type_sort t) _ q e in (t, refl, let z = a.1 in let y = a.2 in cc)

-- ---- the table

module _ (w : World) (x : Input) (world : IsWorld w) (input : IsInput x) where
  succ_is : (us : List Val) → AllZip IsOf (N ∷ []) us → Gives false N (strict w x op.Succ us)
  unfolding strict
  succ_is (val.Count k ∷ []) h = given false N (val.Count (suc k)) tt
  succ_is us h = absurd (assumption)

  thrown_is : (us : List Val) → AllZip IsOf (A ∷ []) us → Gives false F (strict w x op.Thrown us)
  unfolding strict
  thrown_is (val.Num (num.Ref r) ∷ []) h = given false F (val.Fault (fault.Thrown r)) h.0
  thrown_is us h = absurd (assumption)

  is_clear_is : (us : List Val) → AllZip IsOf (F ∷ []) us → Gives false I (strict w x op.IsClear us)
  unfolding strict
  is_clear_is (val.Fault fault.Clear ∷ []) h = given false I (val.Num (num.Int (pos 1))) one_int
  is_clear_is (val.Fault f ∷ []) h = given false I (val.Num (num.Int (is_clear f))) (zero_int)
  is_clear_is us h = absurd (assumption)

  both_is : (us : List Val) → AllZip IsOf (T ∷ T ∷ []) us → Gives false T (strict w x op.Both us)
  unfolding strict
  both_is (val.Unit ∷ val.Unit ∷ []) h = given false T val.Unit tt
  both_is us h = absurd (assumption)

  one_or_zero : (t : Bool) → FitsSigned w32 (if t then pos 1 else pos 0)
  one_or_zero true = one_int
  one_or_zero false = zero_int

  aeq_is : (us : List Val) → AllZip IsOf (A ∷ A ∷ []) us → Gives false I (strict w x op.Aeq us)
  unfolding strict
  aeq_is (val.Num (num.Ref a) ∷ val.Num (num.Ref b) ∷ []) h = given false I (val.Num (num.Int (same_ref a b))) (one_or_zero (a == b))
  aeq_is us h = absurd (assumption)

  length_is : (us : List Val) → AllZip IsOf (A ∷ []) us → Gives false I (strict w x op.Length us)
  unfolding strict
  length_is (val.Num (num.Ref r) ∷ []) h = given false I (val.Num (num.Int (length_of w r))) (known_length (get w.lengths r) refl)
    where
      known_length : (o : Option ℤ) → get w.lengths r ≡ o → FitsSigned w32 (unwrap_or o (pos 0))
      known_length None e = zero_int
      known_length (Some n) e = (world.lengths r n e).number
  length_is us h = absurd (assumption)

  literal_is : (text : List ℕ) → IsRef (literal_of w text)
  literal_is text = known_literal (get w.literals text) refl
    where
      known_literal : (o : Option ℕ) → get w.literals text ≡ o → IsRef (unwrap_or o 0)
      known_literal None e = null_fits
      known_literal (Some r) e = world.literals text r e

  -- a read or a write of a type
  getstatic_is : (s : Sym) (t : JType) (r : OpSort) → field_type s.desc ≡ Some t → type_sort t ≡ Some r → (us : List Val) → AllZip IsOf (H ∷ []) us → Gives false r (strict w x (op.GetStatic s) us)
  unfolding strict
  getstatic_is s t r f e (val.Heap h ∷ []) z = let m = read_is t r h (static_place w s) e z.0 in rw f (rw m.1 (given false r (val.Num m.0) m.2))
  getstatic_is s t r f e us z = absurd (assumption)

  getfield_is : (s : Sym) (t : JType) (r : OpSort) → field_type s.desc ≡ Some t → type_sort t ≡ Some r → (us : List Val) → AllZip IsOf (H ∷ A ∷ []) us → Gives false r (strict w x (op.GetField s) us)
  unfolding strict
  getfield_is s t r f e (val.Heap h ∷ val.Num (num.Ref a) ∷ []) z = let m = read_is t r h (field_place w a s) e z.0 in rw f (rw m.1 (given false r (val.Num m.0) m.2))
  getfield_is s t r f e us z = absurd (assumption)

  -- the last kid of a write is a number
  putstatic_is : (s : Sym) (t : JType) (r : OpSort) → field_type s.desc ≡ Some t → type_sort t ≡ Some r → (us : List Val) → AllZip IsOf (H ∷ r ∷ []) us → Gives false H (strict w x (op.PutStatic s) us)
  unfolding strict
  putstatic_is s t r f e (val.Heap h ∷ v ∷ []) z =
      let n = number_only t r v e z.1.0 in
      let m = written_is t r h (static_place w s) n.0 e (subst (IsOf r) n.1 z.1.0) z.0 tt in
      subst (λ (u : Val). Gives false H (strict w x (op.PutStatic s) (val.Heap h ∷ u ∷ []))) (sym n.1) (rw f (rw m.1 (given false H (val.Heap m.0) m.2)))
  putstatic_is s t r f e us z = absurd (assumption)

  putfield_is : (s : Sym) (t : JType) (r : OpSort) → field_type s.desc ≡ Some t → type_sort t ≡ Some r → (us : List Val) → AllZip IsOf (H ∷ A ∷ r ∷ []) us → Gives false H (strict w x (op.PutField s) us)
  unfolding strict
  putfield_is s t r f e (val.Heap h ∷ val.Num (num.Ref a) ∷ v ∷ []) z =
      let n = number_only t r v e z.1.1.0 in
      let m = written_is t r h (field_place w a s) n.0 e (subst (IsOf r) n.1 z.1.1.0) z.0 z.1.0 in
      subst (λ (u : Val). Gives false H (strict w x (op.PutField s) (val.Heap h ∷ val.Num (num.Ref a) ∷ u ∷ []))) (sym n.1) (rw f (rw m.1 (given false H (val.Heap m.0) m.2)))
  putfield_is s t r f e us z = absurd (assumption)

  load_is : (k : Kind) (us : List Val) → AllZip IsOf (H ∷ A ∷ I ∷ []) us → Gives false (kind_sort k) (strict w x (op.Load k) us)
  unfolding strict
  load_is k (val.Heap h ∷ val.Num (num.Ref a) ∷ val.Num (num.Int i) ∷ []) z =
      let m = read_is (element_type w k a) (kind_sort k) h (Elem k a i) (elem_sort w k a) z.0 in
      rw m.1 (given false (kind_sort k) (val.Num m.0) m.2)
  load_is k us z = absurd (assumption)

  store_is : (k : Kind) (us : List Val) → AllZip IsOf (H ∷ A ∷ I ∷ kind_sort k ∷ []) us → Gives false H (strict w x (op.Store k) us)
  unfolding strict
  store_is k (val.Heap h ∷ val.Num (num.Ref a) ∷ val.Num (num.Int i) ∷ v ∷ []) z =
      let n = number_only (element_type w k a) (kind_sort k) v (elem_sort w k a) z.1.1.1.0 in
      let m = written_is (element_type w k a) (kind_sort k) h (Elem k a i) n.0 (elem_sort w k a) (subst (IsOf (kind_sort k)) n.1 z.1.1.1.0) z.0 (z.1.0, z.1.1.0) in
      subst (λ (u : Val). Gives false H (strict w x (op.Store k) (val.Heap h ∷ val.Num (num.Ref a) ∷ val.Num (num.Int i) ∷ u ∷ []))) (sym n.1) (rw m.1 (given false H (val.Heap m.0) m.2))
  store_is k us z = absurd (assumption)

  -- an operation without kids
  leaf : (o : Op) (t : OpSort) (ss : List OpSort) (s : OpSort) (vs : List Val) → exactly [] t ss ≡ Some s → AllZip IsOf ss vs → Gives (may_not_end o) t (strict w x o []) → Gives (may_not_end o) s (strict w x o vs)
  leaf o t ss s vs e h g = over_exactly o (strict w x o) [] t ss s vs e h (λ us z. none_of (may_not_end o) t (strict w x o) us z g)

  -- the type of a field, and its sort
  field_of : (sy : Sym) (f : OpSort → Option OpSort) (s : OpSort) → bind (field_sort sy) f ≡ Some s → (t : JType) × (r : OpSort) × (field_type sy.desc ≡ Some t) × (type_sort t ≡ Some r) × (f r ≡ Some s)
  field_of sy f s e =
      let a = bind_some (field_sort sy) f s e in
      let b = bind_some (field_type sy.desc) type_sort a.0 a.1 in
      (b.0, a.0, b.1, b.2, a.2)

  -- a call's part, of a sort that doesn't depend on the call
  part_of : (o : Op) (sy : Sym) (t : OpSort) (part : Option Outcome → Heap → Option Val) → ((reply : Option Outcome) (h : Heap) → IsHeap h → ((out : Outcome) → reply ≡ Some out → IsReply sy out) → Gives (may_not_end o) t (part reply h))
      → (ss : List OpSort) (s : OpSort) (vs : List Val) → bind (call_sorts sy) (λ c. exactly c.kids t ss) ≡ Some s → AllZip IsOf ss vs → Gives (may_not_end o) s (over_call w sy part vs)
  part_of o sy t part p ss s vs e h =
      let c = bind_some (call_sorts sy) _ s e in
      over_exactly o (over_call w sy part) c.0.kids t ss s vs c.2 h (λ us z. call_gives w world sy c.0 c.1 (may_not_end o) t part p us z)

  callres_is : (sy : Sym) (ss : List OpSort) (s : OpSort) (vs : List Val) → sort_over (op.CallRes sy) ss ≡ Some s → AllZip IsOf ss vs → Gives false s (strict w x (op.CallRes sy) vs)
  unfolding strict
  callres_is sy ss s vs e h =
      let c = bind_some (call_sorts sy) _ s e in
      let r = bind_some c.0.result _ s c.2 in
      let k = call_type sy c.0 c.1 in
      let t = some_result k.d.result c.0.result r.0 k.result_is r.1 in
      over_exactly (op.CallRes sy) (strict w x (op.CallRes sy)) c.0.kids r.0 ss s vs r.2 h
      (λ us z. call_gives w world sy c.0 c.1 false r.0 (result_part sy)
      (λ reply m heap p. part_gives sy k.d t.0 r.0 reply (method_type sy.desc) k.of t.1 (result_gives sy k.d t.0 r.0 reply k.of t.1 t.2 p)) us z)

  -- the table of the operations that need the values of all their kids
  pub strict_is : (o : Op) → IsRanged o → (ss : List OpSort) (s : OpSort) (vs : List Val) → sort_over o ss ≡ Some s → shape o ≡ plain → AllZip IsOf ss vs → Gives (may_not_end o) s (strict w x o vs)
  unfolding strict
  strict_is (op.Int c) r ss s vs e p h = leaf (op.Int c) I ss s vs e h (given false I (val.Num (num.Int c)) r)
  strict_is (op.Long c) r ss s vs e p h = leaf (op.Long c) L ss s vs e h (given false L (val.Num (num.Long c)) r)
  strict_is op.Null r ss s vs e p h = leaf op.Null A ss s vs e h (given false A (val.Num (num.Ref 0)) null_fits)
  strict_is (op.Literal t) r ss s vs e p h = leaf (op.Literal t) A ss s vs e h (given false A (val.Num (num.Ref (literal_of w t))) (literal_is t))
  strict_is (op.Param j q) r ss s vs e p h =
      let a = bind_some (param_sort q) _ s e in
      leaf (op.Param j q) a.0 ss s vs a.2 h (given false a.0 (val.Num (param_of x.args j q)) (param_is q a.0 (slice_get x.args j) a.1 (λ m z. nth_of IsNum x.args input.args j m z)))
  strict_is op.This r ss s vs e p h = leaf op.This A ss s vs e h (given false A (val.Num (num.Ref x.this)) input.this)
  strict_is op.Heap0 r ss s vs e p h = leaf op.Heap0 H ss s vs e h (given false H (val.Heap x.heap) input.heap)
  strict_is op.Unit r ss s vs e p h = leaf op.Unit T ss s vs e h (given false T val.Unit tt)
  strict_is op.Never r ss s vs e p h = leaf op.Never T ss s vs e h (inl (refl, refl))
  strict_is op.Clear r ss s vs e p h = leaf op.Clear F ss s vs e h (given false F (val.Fault fault.Clear) tt)
  strict_is op.FNull r ss s vs e p h = leaf op.FNull F ss s vs e h (given false F (val.Fault fault.Null) tt)
  strict_is op.FArith r ss s vs e p h = leaf op.FArith F ss s vs e h (given false F (val.Fault fault.Arith) tt)
  strict_is op.FIndex r ss s vs e p h = leaf op.FIndex F ss s vs e h (given false F (val.Fault fault.Index) tt)
  strict_is op.Zero r ss s vs e p h = leaf op.Zero N ss s vs e h (given false N (val.Count 0) tt)
  strict_is op.Succ r ss s vs e p h = over_exactly op.Succ (strict w x op.Succ) (N ∷ []) N ss s vs e h succ_is
  strict_is op.Thrown r ss s vs e p h = over_exactly op.Thrown (strict w x op.Thrown) (A ∷ []) F ss s vs e h thrown_is
  strict_is op.IsClear r ss s vs e p h = over_exactly op.IsClear (strict w x op.IsClear) (F ∷ []) I ss s vs e h is_clear_is
  strict_is op.Both r ss s vs e p h = over_exactly op.Both (strict w x op.Both) (T ∷ T ∷ []) T ss s vs e h both_is
  strict_is (op.Scalar o) r ss s vs e p h = over_exactly (op.Scalar o) (strict w x (op.Scalar o)) (map word_sort (takes o)) (word_sort (gives o)) ss s vs e h (scalar_is o)
  strict_is op.Aeq r ss s vs e p h = over_exactly op.Aeq (strict w x op.Aeq) (A ∷ A ∷ []) I ss s vs e h aeq_is
  strict_is (op.GetStatic sy) r ss s vs e p h =
      let f = field_of sy _ s e in over_exactly (op.GetStatic sy) (strict w x (op.GetStatic sy)) (H ∷ []) f.1 ss s vs f.4 h (getstatic_is sy f.0 f.1 f.2 f.3)
  strict_is (op.PutStatic sy) r ss s vs e p h =
      let f = field_of sy _ s e in over_exactly (op.PutStatic sy) (strict w x (op.PutStatic sy)) (H ∷ f.1 ∷ []) H ss s vs f.4 h (putstatic_is sy f.0 f.1 f.2 f.3)
  strict_is (op.GetField sy) r ss s vs e p h =
      let f = field_of sy _ s e in over_exactly (op.GetField sy) (strict w x (op.GetField sy)) (H ∷ A ∷ []) f.1 ss s vs f.4 h (getfield_is sy f.0 f.1 f.2 f.3)
  strict_is (op.PutField sy) r ss s vs e p h =
      let f = field_of sy _ s e in over_exactly (op.PutField sy) (strict w x (op.PutField sy)) (H ∷ A ∷ f.1 ∷ []) H ss s vs f.4 h (putfield_is sy f.0 f.1 f.2 f.3)
  strict_is (op.Load k) r ss s vs e p h = over_exactly (op.Load k) (strict w x (op.Load k)) (H ∷ A ∷ I ∷ []) (kind_sort k) ss s vs e h (load_is k)
  strict_is (op.Store k) r ss s vs e p h = over_exactly (op.Store k) (strict w x (op.Store k)) (H ∷ A ∷ I ∷ kind_sort k ∷ []) H ss s vs e h (store_is k)
  strict_is op.Length r ss s vs e p h = over_exactly op.Length (strict w x op.Length) (A ∷ []) I ss s vs e h length_is
  strict_is (op.CallEnd sy) r ss s vs e p h = part_of (op.CallEnd sy) sy T end_part (λ reply m heap q. end_gives reply) ss s vs e h
  strict_is (op.CallRes sy) r ss s vs e p h = callres_is sy ss s vs e h
  strict_is (op.CallFault sy) r ss s vs e p h = part_of (op.CallFault sy) sy F fault_part (λ reply m heap q. given false F (val.Fault (reply_fault reply)) (fault_gives sy reply q)) ss s vs e h
  strict_is (op.CallHeap sy) r ss s vs e p h = part_of (op.CallHeap sy) sy H heap_part (λ reply m heap q. given false H (val.Heap (reply_heap m reply)) (heap_gives sy reply m heap q)) ss s vs e h
  strict_is (op.Var j q) r ss s vs e p h = leaf (op.Var j q) q ss s vs e h (inl (refl, refl))
  strict_is o r ss s vs e p h = absurd (cc)
