-- What is read as a type is a value of it, and what was written as a type is read again.
use Rattle.std.proofs.Common.{◌≡◌, ℕ, ◌%◌, ◌<◌, ℤ, pos, negsuc, Option, Some, None, refl, sym, ap, subst, ◌∙◌, FitsSigned, arith}
use Rattle.std.specs.Prelude.{option_map}
use Rattle.std.specs.Int.{w8, w16, w32, w64, int_wrap, int_rem_euclid, cast_unsigned}
use Rattle.std.specs.FinMap.{FinMap, get}
use Rattle.std.proofs.lemmas.Int.{SFits-int_wrap, int_wrap_fits, of_z-to_z, ints}
use Rattle.std.specs.Option.{unwrap_or}
use Rattle.std.proofs.Math.Facts.{Fits-of_z, sfits_to_z}
use Rattle.std.proofs.Math.Nat.{mod-lt, mod-eq_of_lt}
use Rattle.pv_value.specs.declared.descriptor.JType.{JType}
use Rattle.pv_value.specs.declared.descriptor.JType.TheVariants.{Z, B, C, S, I, J, A}
use Rattle.pv_value.specs.declared.number.Num.{Num}
use Rattle.pv_value.specs.declared.number.Num.TheVariants.{Int, Long, Ref}
use Rattle.pv_value.specs.declared.heap.Loc.{Loc}
use Rattle.pv_value.specs.Order.{loc_cmp}
use Rattle.pv_value.specs.Numbers.{IsNum}
use Rattle.pv_value.specs.Inputs.{IsBetween, IsOfType}
use Rattle.pv_value.specs.Heaps.{read, written, IsHeap}
use Rattle.pv_value.specs.Narrowing.{narrowed, as_type, heap_number, shown, written_as}
use Rattle.pv_value.specs.Laws.{NarrowingKept}
use Rattle.pv_value.proofs.Fitting.{type_num}
use Rattle.pv_value.proofs.Writes.{read_same, read_other, IsHeap-written}

low_bit : (n : ℤ) → IsBetween (pos 0) (pos 1) (int_rem_euclid n (pos 2))
low_bit (pos a) = let lt : a % 2 < 2 = mod-lt a (omega arith) in (omega (arith, ints), omega (arith, ints))
low_bit (negsuc a) = let lt : a % 2 < 2 = mod-lt a (omega arith) in (omega (arith, ints), omega (arith, ints))

low_char : (n : ℤ) → IsBetween (pos 0) (pos 65535) (int_rem_euclid n (pos 65536))
low_char (pos a) = let lt : a % 65536 < 65536 = mod-lt a (omega arith) in (omega (arith, ints), omega (arith, ints))
low_char (negsuc a) = let lt : a % 65536 < 65536 = mod-lt a (omega arith) in (omega (arith, ints), omega (arith, ints))

-- an int as a value of a type is one
narrowed_fits : (t : JType) (n m : ℤ) → FitsSigned w32 n → narrowed t n ≡ Some m → IsOfType t (Int m)
narrowed_fits Z n m h e = subst (λ (k : ℤ). IsOfType Z (Int k)) (let same : int_rem_euclid n (pos 2) ≡ m = cc in same) (low_bit n)
narrowed_fits B n m h e = subst (λ (k : ℤ). IsOfType B (Int k)) (let same : int_wrap w8 n ≡ m = cc in same) (SFits-int_wrap w8 n)
narrowed_fits C n m h e = subst (λ (k : ℤ). IsOfType C (Int k)) (let same : int_rem_euclid n (pos 65536) ≡ m = cc in same) (low_char n)
narrowed_fits S n m h e = subst (λ (k : ℤ). IsOfType S (Int k)) (let same : int_wrap w16 n ≡ m = cc in same) (SFits-int_wrap w16 n)
narrowed_fits I n m h e = subst (λ (k : ℤ). IsOfType I (Int k)) (let same : n ≡ m = cc in same) h
narrowed_fits t n m h e = absurd (cc)

-- and stays as it is
narrowed_again : (t : JType) (m : ℤ) → IsOfType t (Int m) → narrowed t m ≡ Some m
narrowed_again Z (pos k) h = ap (λ (a : ℕ). Some (pos a)) (mod-eq_of_lt (let le = h.1 in omega (arith, ints)))
narrowed_again Z (negsuc k) h = absurd (let le = h.0 in omega (arith, ints))
narrowed_again B m h = ap (λ (k : ℤ). Some k) (int_wrap_fits w8 m h)
narrowed_again C (pos k) h = ap (λ (a : ℕ). Some (pos a)) (mod-eq_of_lt (let le = h.1 in omega (arith, ints)))
narrowed_again C (negsuc k) h = absurd (let le = h.0 in omega (arith, ints))
narrowed_again S m h = ap (λ (k : ℤ). Some k) (int_wrap_fits w16 m h)
narrowed_again I m h = refl
narrowed_again t m h = absurd h

int_fits : (t : JType) (o : Option ℤ) (m : Num) → ((k : ℤ) → o ≡ Some k → IsOfType t (Int k)) → option_map Int o ≡ Some m → IsOfType t m
int_fits t None m h e = absurd (cc)
int_fits t (Some k) m h e = subst (IsOfType t) (let same : Int k ≡ m = cc in same) (h k refl)

-- a number as a value of a type is one
as_type_fits : (t : JType) (n m : Num) → IsNum n → as_type t n ≡ Some m → IsOfType t m
as_type_fits t (Int n) m h e = int_fits t (narrowed t n) m (λ k is. narrowed_fits t n k h is) e
as_type_fits J (Long n) m h e = subst (IsOfType J) (let same : Long n ≡ m = cc in same) h
as_type_fits A (Ref r) m h e = subst (IsOfType A) (let same : Ref r ≡ m = cc in same) h
as_type_fits t n m h e = absurd (cc)

-- so is what is read as a type
shown_fits : (t : JType) (n : ℤ) (m : Num) → FitsSigned w64 n → shown t n ≡ Some m → IsOfType t m
shown_fits J n m h e = subst (IsOfType J) (let same : Long n ≡ m = cc in same) h
shown_fits A n m h e = subst (IsOfType A) (let same : Ref (cast_unsigned w64 n) ≡ m = cc in same) (Fits-of_z h).fits
shown_fits t n m h e = int_fits t (narrowed t (int_wrap w32 n)) m (λ k is. narrowed_fits t (int_wrap w32 n) k (SFits-int_wrap w32 n) is) e

-- the heap's numbers have 64 bits
read_long : (h : FinMap loc_cmp ℤ) (at : Loc) → IsHeap h → FitsSigned w64 (read h at)
read_long h at heap = go (get h at) refl
  where
    go : (o : Option ℤ) → get h at ≡ o → FitsSigned w64 (unwrap_or o (pos 0))
    go None e = record { sfits = omega arith }
    go (Some n) e = (heap at n e).number

number_fits : (t : JType) (m : Num) → IsOfType t m → FitsSigned w64 (heap_number m)
number_fits t (Int n) h = let fits = type_num t (Int n) h in record { sfits = omega (arith, fits.sfits) }
number_fits t (Long n) h = type_num t (Long n) h
number_fits t (Ref r) h = sfits_to_z (record { fits = type_num t (Ref r) h })

-- what the heap keeps of a value of a type is read as it
shown_again : (t : JType) (m : Num) → IsOfType t m → shown t (heap_number m) ≡ Some m
shown_again J (Long n) h = refl
shown_again A (Ref r) h = ap (λ (q : ℕ). Some (Ref q)) (of_z-to_z w64 r h)
shown_again J (Int n) h = absurd h
shown_again A (Int n) h = absurd h
shown_again t (Int n) h = ap (option_map Int) (ap (narrowed t) (int_wrap_fits w32 n (type_num t (Int n) h)) ∙ narrowed_again t n h)
shown_again t m h = absurd h

-- a write is of a value of its type
record Wrote (t : JType) (h g : FinMap loc_cmp ℤ) (at : Loc) (n : Num) : Type 0 where
  value : Num
  narrow : as_type t n ≡ Some value
  is : g ≡ written h at (heap_number value)

wrote : (t : JType) (h g : FinMap loc_cmp ℤ) (at : Loc) (n : Num) → written_as t h at n ≡ Some g → Wrote t h g at n
wrote t h g at n e = go (as_type t n) refl e
  where
    go : (o : Option Num) → as_type t n ≡ o → option_map (written h at) (option_map heap_number o) ≡ Some g → Wrote t h g at n
    go None is e = absurd (cc)
    go (Some m) is e = record { value = m; narrow = is; is = (let same : written h at (heap_number m) ≡ g = cc in sym same) }

pub narrowing_kept : NarrowingKept
narrowing_kept = record {
  read_fits = λ t h at n heap e. shown_fits t (read h at) n (read_long h at heap) e;
  heap = λ t h g at n heap place fits e.
      let w = wrote t h g at n e in
      subst IsHeap (sym w.is) (IsHeap-written h at (heap_number w.value) heap place (number_fits t w.value (as_type_fits t n w.value fits w.narrow)));
  read_again = λ t h g at n fits e.
      let w = wrote t h g at n e in
      ap (λ (q : FinMap loc_cmp ℤ). shown t (read q at)) w.is ∙ ap (shown t) (read_same h at (heap_number w.value))
      ∙ shown_again t w.value (as_type_fits t n w.value fits w.narrow) ∙ sym w.narrow;
  others = λ t u h g at q n apart e.
      let w = wrote t h g at n e in
      ap (λ (p : FinMap loc_cmp ℤ). shown u (read p q)) w.is ∙ ap (shown u) (read_other h at q (heap_number w.value) apart);
}
