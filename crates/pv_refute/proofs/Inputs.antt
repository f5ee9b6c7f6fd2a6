-- The world of the tries is one, and the input of a try fits its descriptor.
use Rattle.std.proofs.Common.{◌≡◌, ℕ, zero, suc, ◌-◌, ◌%◌, ◌<◌, ℤ, pos, neg_ℤ, List, [], ◌∷◌, Option, Some, refl, ap, ◌∙◌, FitsSigned, arith}
use Rattle.std.specs.Prelude.{option_map, slice_index_or}
use Rattle.std.specs.Int.{Width, w32, w64}
use Rattle.std.specs.List.{AllByRecursion, AllZip}
use Rattle.std.specs.FinMap.{FinMap, empty, get-empty}
use Rattle.std.proofs.lemmas.Int.{ints}
use Rattle.std.proofs.Math.Nat.{mod-lt}
use Rattle.pv_value.specs.declared.descriptor.JType.{JType}
use Rattle.pv_value.specs.declared.descriptor.JType.TheVariants.{Z, B, C, S, I, J, A}
use Rattle.pv_value.specs.declared.descriptor.Descriptor.{Descriptor}
use Rattle.pv_value.specs.declared.heap.Kind.TheVariants as kind
use Rattle.pv_value.specs.declared.heap.Loc.TheVariants.{Elem}
use Rattle.pv_value.specs.declared.number.Num.{Num}
use Rattle.pv_value.specs.declared.number.Num.TheVariants.{Int}
use Rattle.pv_value.specs.Heaps.{IsHeap, IsLoc, written}
use Rattle.pv_value.specs.Inputs.{Fits, IsOfType}
use Rattle.pv_value.specs.Laws.{NarrowingKept, WorldsKept}
use Rattle.pv_value.specs.Narrowing.{as_type, heap_number, written_as}
use Rattle.pv_value.specs.Numbers.{IsNum}
use Rattle.pv_value.specs.Order.{loc_cmp}
use Rattle.pv_value.specs.Worlds.{IsWorld, IsLength}
use Rattle.pv_frame.specs.Actions.{IsFloatless, IsFloatlessMethod}
use Rattle.pv_refute.specs.Tries.{try_world, digit, choices, int_of, long_of, argument, arguments, try_input}

-- ---- the world

length_is : (r : ℕ) (n : ℕ) → r < 5 → n < 5 → IsLength r (pos n)
length_is r n one two = record { ref_ = omega arith; low = omega (arith, ints); number = record { sfits = omega (arith, ints) } }

pub is_world : WorldsKept → IsWorld try_world
is_world kept =
    let one = kept.length_ _ 4 (pos 3) kept.none (length_is 4 3 (omega arith) (omega arith)) in
    let two = kept.length_ _ 3 (pos 2) one (length_is 3 2 (omega arith) (omega arith)) in
    let three = kept.length_ _ 2 (pos 1) two (length_is 2 1 (omega arith) (omega arith)) in
    kept.length_ _ 1 (pos 0) three (length_is 1 0 (omega arith) (omega arith))

-- ---- the inputs

all_at : {A : Type 0} (P : A → Type 0) (xs : List A) (i : ℕ) (d : A) → AllByRecursion P xs → P d → P (slice_index_or xs i d)
all_at P [] i d all otherwise = otherwise
all_at P (x ∷ xs) zero d all otherwise = all.0
all_at P (x ∷ xs) (suc i) d all otherwise = all_at P xs i d all.1 otherwise

-- a choice is in a range in which 7, -8, the greatest and the least value are
chosen : (w : Width) (greatest least : ℤ) (d : ℕ) → AllByRecursion (FitsSigned w) (choices greatest least) → FitsSigned w (pos 0) → FitsSigned w (slice_index_or (choices greatest least) d (pos 0))
chosen w greatest least d all none = all_at (FitsSigned w) (choices greatest least) d (pos 0) all none

int_fits : (d : ℕ) → FitsSigned w32 (int_of d)
int_fits d =
    chosen w32 (pos 2147483647) (neg_ℤ (pos 2147483648)) d
    (record { sfits = omega (arith, ints) }, (record { sfits = omega (arith, ints) }, (record { sfits = omega (arith, ints) }, (record { sfits = omega (arith, ints) }, (record { sfits = omega (arith, ints) }, (record { sfits = omega (arith, ints) }, (record { sfits = omega (arith, ints) }, (record { sfits = omega (arith, ints) }, tt)))))))) record { sfits = omega (arith, ints) }

long_fits : (d : ℕ) → FitsSigned w64 (long_of d)
long_fits d =
    chosen w64 _ _ d (record { sfits = omega (arith, ints) }, (record { sfits = omega (arith, ints) }, (record { sfits = omega (arith, ints) }, (record { sfits = omega (arith, ints) }, (record { sfits = omega (arith, ints) }, (record { sfits = omega (arith, ints) }, (record { sfits = omega (arith, ints) }, (record { sfits = omega (arith, ints) }, tt)))))))) record { sfits = omega (arith, ints) }

no_entries : IsHeap empty
no_entries at n e = absurd (let none = get-empty {X = ℤ} loc_cmp at in cc (none, e))

-- an int as a value of a type is one: it is what is read after it was written
as_type_fits : NarrowingKept → (t : JType) (n m : Num) → IsNum n → as_type t n ≡ Some m → IsOfType t m
as_type_fits kept t n m fits e =
    let at = Elem kind.Int 0 (pos 0) in
    let place : IsLoc at = (omega arith, record { sfits = omega (arith, ints) }) in
    let g : FinMap loc_cmp ℤ = written empty at (heap_number m) in
    let wrote : written_as t empty at n ≡ Some g = ap (λ (o : Option Num). option_map (written empty at) (option_map heap_number o)) e in
    kept.read_fits t g at m (kept.heap t empty g at n no_entries place fits wrote) (kept.read_again t empty g at n fits wrote ∙ e)

argument_fits : NarrowingKept → (t : JType) (d : ℕ) → IsFloatless t → IsOfType t (argument t d)
argument_fits kept Z d free = as_type_fits kept Z (Int (int_of d)) (argument Z d) (int_fits d) refl
argument_fits kept B d free = as_type_fits kept B (Int (int_of d)) (argument B d) (int_fits d) refl
argument_fits kept C d free = as_type_fits kept C (Int (int_of d)) (argument C d) (int_fits d) refl
argument_fits kept S d free = as_type_fits kept S (Int (int_of d)) (argument S d) (int_fits d) refl
argument_fits kept I d free = int_fits d
argument_fits kept J d free = long_fits d
argument_fits kept A d free = let low : d % 5 < 5 = mod-lt d (omega arith) in omega arith
argument_fits kept _ d free = absurd free

arguments_fit : NarrowingKept → (n j : ℕ) (types : List JType) → AllByRecursion IsFloatless types → AllZip IsOfType types (arguments n j types)
arguments_fit kept n j [] free = tt
arguments_fit kept n j (t ∷ types) free = (argument_fits kept t (digit n j) free.0, arguments_fit kept n (suc j) types free.1)

pub inputs_fit : NarrowingKept → (d : Descriptor) (t : ℕ) → IsFloatlessMethod d → Fits d (try_input d t)
inputs_fit kept d t free = record { args = arguments_fit kept (t - 1) 0 d.params free.0; this = omega arith; not_null = omega arith; heap = no_entries }
