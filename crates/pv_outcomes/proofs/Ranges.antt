-- Ints in a run are in the range of ints; and the lowest bit of an int.
use Rattle.std.proofs.Common.{◌≡◌, ℕ, suc, ◌<◌, ◌-◌, ℤ, pos, negsuc, Option, Some, None, refl, ap, sym, subst, ◌∙◌, arith, lit<, lit≤}
use Rattle.pv_outcomes.proofs.Words.{option_map, FitsSigned, unwrap_or, ◌%◌, bit_and, w8, w16, w32, int_wrap, int_bit_and, int_rem_euclid, cast_signed, SFits-int_wrap, ints, Num, JType, ScalarOp, Iand, World, scalar_fits, scalar_exact, type_num, narrowed, shown, IsOfType, IsOfSort, IsWorld, length_of, some_of, no_some, num_of, value_of, wider, low_fits, InRange}
use Rattle.std.specs.FinMap.{get}
use Rattle.std.proofs.lemmas.Nat.{and_mask}
use Rattle.std.proofs.Math.Nat.{mod-lt}
use Rattle.pv_value.specs.declared.number.Num.TheVariants as num
use Rattle.pv_value.specs.declared.descriptor.JType.TheVariants as jtype
use Rattle.pv_value.specs.Operations as operation
use Rattle.pv_value.specs.Numbers.{IsNum}

-- ---- where ints come from

pub num_range : (n : Num) → IsNum n → InRange n
num_range (num.Int n) h = h
num_range (num.Long n) h = tt
num_range (num.Ref r) h = tt

pub type_range : (t : JType) (n : Num) → IsOfType t n → InRange n
type_range t n h = num_range n (type_num t n h)

pub sort_range : (t : JType) (n : Num) → IsOfSort t n → InRange n
sort_range jtype.Z (num.Int n) h = h
sort_range jtype.B (num.Int n) h = h
sort_range jtype.C (num.Int n) h = h
sort_range jtype.S (num.Int n) h = h
sort_range jtype.I (num.Int n) h = h
sort_range t (num.Long n) h = tt
sort_range t (num.Ref r) h = tt
sort_range t n h = elim h [ ]

-- the value of an operation
pub value_range : (o : ScalarOp) (a b : ℤ) → InRange (value_of o a b)
value_range o a b = go (operation.gives o) (operation.scalar_of o a b) (scalar_fits o a b)
  where
    go : (t : operation.Word) (n : ℤ) → operation.IsOfWord t n → InRange (num_of t n)
    go operation.int n h = h
    go operation.long n h = tt

narrowed_range : (t : JType) (n m : ℤ) → FitsSigned w32 n → narrowed t n ≡ Some m → FitsSigned w32 m
narrowed_range jtype.Z n m h e = subst (FitsSigned w32) (some_of _ _ e) (low_fits n 2 (lit< tt) (lit< tt))
narrowed_range jtype.B n m h e = subst (FitsSigned w32) (some_of _ _ e) (wider w8 w32 (int_wrap w8 n) (lit≤ tt) (SFits-int_wrap w8 n))
narrowed_range jtype.C n m h e = subst (FitsSigned w32) (some_of _ _ e) (low_fits n 65536 (lit< tt) (lit< tt))
narrowed_range jtype.S n m h e = subst (FitsSigned w32) (some_of _ _ e) (wider w16 w32 (int_wrap w16 n) (lit≤ tt) (SFits-int_wrap w16 n))
narrowed_range jtype.I n m h e = subst (FitsSigned w32) (some_of _ _ e) h
narrowed_range t n m h e = no_some m e

int_range : (o : Option ℤ) (n : Num) → ((m : ℤ) → o ≡ Some m → FitsSigned w32 m) → option_map num.Int o ≡ Some n → InRange n
int_range None n h e = no_some n e
int_range (Some m) n h e = subst InRange (some_of _ _ e) (h m refl)

-- what is read as a type
pub shown_range : (t : JType) (z : ℤ) (n : Num) → shown t z ≡ Some n → InRange n
shown_range jtype.J z n e = subst InRange (some_of _ _ e) tt
shown_range jtype.A z n e = subst InRange (some_of _ _ e) tt
shown_range t z n e = int_range (narrowed t (int_wrap w32 z)) n (λ m is. narrowed_range t (int_wrap w32 z) m (SFits-int_wrap w32 z) is) e

-- the length of an array
pub length_range : (w : World) → IsWorld w → (r : ℕ) → FitsSigned w32 (length_of w r)
length_range w world r = go (get w.lengths r) refl
  where
    go : (o : Option ℤ) → get w.lengths r ≡ o → FitsSigned w32 (unwrap_or o (pos 0))
    go None e = record { sfits = lit< tt }
    go (Some n) e = (world.lengths r n e).number

-- ---- the lowest bit

and_one : (n : ℕ) → bit_and n 1 ≡ n % 2
and_one n = and_mask n 1

low_bit : (n : ℤ) → FitsSigned w32 n → int_bit_and w32 n (pos 1) ≡ int_rem_euclid n (pos 2)
low_bit (pos a) h = let lt : a % 2 < 2 = mod-lt a (omega arith) in ap (cast_signed w32) (and_one a) ∙ omega (arith, ints)
low_bit (negsuc a) h = ap (cast_signed w32) (and_one (4294967296 - suc a)) ∙ omega (arith, ints)

-- the machine narrows a boolean by its lowest bit
pub boolean_is : (n : ℤ) → FitsSigned w32 n → operation.scalar_of Iand n (pos 1) ≡ int_rem_euclid n (pos 2)
boolean_is n h = scalar_exact Iand n (pos 1) (subst (FitsSigned w32) (sym (low_bit n h)) (low_fits n 2 (lit< tt) (lit< tt))) ∙ low_bit n h
