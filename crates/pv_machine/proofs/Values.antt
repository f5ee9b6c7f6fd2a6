-- What the machine gives has the sorts that frames tell: values of operations, of fields, elements and locals.
use Rattle.std.proofs.Common.{◌≡◌, ℕ, ℤ, zero, suc, ◌-◌, Bool, true, false, List, [], ◌∷◌, ◌++◌, length, Option, Some, None, ◌∙◌, refl, ap, sym, subst, inl, inr, ◌⊎◌, map, option_map, if◌then◌else◌, slice_get, slice_set, replicate}
use Rattle.pv_machine.proofs.Words.{AllZip, flat_map, map-append, length-map, ◌>>=◌, Num, JType, Z, B, C, S, I, J, F, D, A, Kind, World, Input, ScalarOp, is_boolean, IsOfType, IsOfSort, as_type, kept, shown, element_type, Sort, fits, sort_of, sort_of_local, sort_of_type, sort_of_word, sort_of_kind, IsFloatless, Program, holds, sorts_of, this_sorts, passed_to, padded_sorts, fits_same, locals_of, passed, padded, of_sort, num_of, value_of, computed, increased}
use Rattle.pv_value.specs.declared.number.Num.TheVariants as num
use Rattle.pv_value.specs.declared.heap.Kind.TheVariants as kind
use Rattle.pv_value.specs.declared.operation.ScalarOp.TheVariants as op
use Rattle.pv_value.specs.Operations as operation
use Rattle.pv_frame.specs.declared.sort.Sort.TheVariants as sort

-- ---- operations

-- an operation has one operand or two
pub shape : (o : ScalarOp) → ((x : operation.Word) × (operation.takes o ≡ x ∷ [])) ⊎ ((x : operation.Word) × (y : operation.Word) × (operation.takes o ≡ x ∷ y ∷ []))
shape op.Ineg = inl (_, refl)
shape op.I2b = inl (_, refl)
shape op.I2c = inl (_, refl)
shape op.I2s = inl (_, refl)
shape op.I2l = inl (_, refl)
shape op.Lneg = inl (_, refl)
shape op.L2i = inl (_, refl)
shape o = inr (_, _, refl)

num_sort : (x : operation.Word) (n : ℤ) → sort_of (num_of x n) ≡ sort_of_word x
num_sort operation.int n = refl
num_sort operation.long n = refl

pub value_sort : (o : ScalarOp) (a b : ℤ) → sort_of (value_of o a b) ≡ sort_of_word (operation.gives o)
value_sort o a b = num_sort (operation.gives o) (operation.scalar_of o a b)

-- a number of a sort, where there is one
pub record Gives (found : Option Num) (s : Sort) : Type 0 where
  pub value : Num
  pub is : found ≡ Some value
  pub sort : sort_of value ≡ s

pub computed_gives : (o : ScalarOp) (nums : List Num) → map sort_of nums ≡ map sort_of_word (operation.takes o) → Gives (computed o nums) (sort_of_word (operation.gives o))
computed_gives o nums e = elim (shape o) [
  | inl (x, is) ↦ of_one o nums x (e ∙ ap (map sort_of_word) is)
  | inr (x, y, is) ↦ of_two o nums x y (e ∙ ap (map sort_of_word) is)
]
  where
    of_one : (o : ScalarOp) (nums : List Num) (x : operation.Word) → map sort_of nums ≡ sort_of_word x ∷ [] → Gives (computed o nums) (sort_of_word (operation.gives o))
    of_one o [] x e = absurd (cc)
    of_one o (a ∷ []) x e = record { value = _; is = refl; sort = value_sort o _ _ }
    of_one o (a ∷ b ∷ nums) x e = absurd (cc)

    of_two : (o : ScalarOp) (nums : List Num) (x y : operation.Word) → map sort_of nums ≡ sort_of_word x ∷ sort_of_word y ∷ [] → Gives (computed o nums) (sort_of_word (operation.gives o))
    of_two o [] x y e = absurd (cc)
    of_two o (a ∷ []) x y e = absurd (cc)
    of_two o (a ∷ b ∷ []) x y e = record { value = _; is = refl; sort = value_sort o _ _ }
    of_two o (a ∷ b ∷ c ∷ nums) x y e = absurd (cc)

-- ---- types

pub shown_gives : (t : JType) (n : ℤ) → IsFloatless t → Gives (shown t n) (sort_of_type t)
shown_gives F n h = absurd h
shown_gives D n h = absurd h
shown_gives t n h = record { value = _; is = refl; sort = refl }

no_unknown : (n : Num) → sort_of n ≡ sort.Unknown → ⊥
no_unknown (num.Int n) e = cc
no_unknown (num.Long n) e = cc
no_unknown (num.Ref n) e = cc

-- a number of a type's sort is a value of the type
pub as_type_gives : (t : JType) (n : Num) → sort_of n ≡ sort_of_type t → Gives (as_type t n) (sort_of_type t)
as_type_gives Z (num.Int n) e = record { value = _; is = refl; sort = refl }
as_type_gives B (num.Int n) e = record { value = _; is = refl; sort = refl }
as_type_gives C (num.Int n) e = record { value = _; is = refl; sort = refl }
as_type_gives S (num.Int n) e = record { value = _; is = refl; sort = refl }
as_type_gives I (num.Int n) e = record { value = _; is = refl; sort = refl }
as_type_gives J (num.Long n) e = record { value = _; is = refl; sort = refl }
as_type_gives A (num.Ref n) e = record { value = _; is = refl; sort = refl }
as_type_gives F n e = absurd (no_unknown n e)
as_type_gives D n e = absurd (no_unknown n e)
as_type_gives t n e = absurd (cc)

pub kept_some : (t : JType) (n : Num) → sort_of n ≡ sort_of_type t → (k : ℤ) × (kept t n ≡ Some k)
kept_some t n e = let g = as_type_gives t n e in (_, ap (option_map _) g.is)

pub element_sort : (w : World) (k : Kind) (r : ℕ) → (sort_of_type (element_type w k r) ≡ sort_of_kind k) × IsFloatless (element_type w k r)
element_sort w kind.Byte r = elim (is_boolean w r) as (λ b. (sort_of_type (if b then Z else B) ≡ sort.Int) × IsFloatless (if b then Z else B)) [ true ↦ (refl, tt) | false ↦ (refl, tt) ]
element_sort w k r = (refl, tt)

pub of_sort_type : (t : JType) (n : Num) → IsOfSort t n → sort_of n ≡ sort_of_type t
of_sort_type Z (num.Int n) h = refl
of_sort_type B (num.Int n) h = refl
of_sort_type C (num.Int n) h = refl
of_sort_type S (num.Int n) h = refl
of_sort_type I (num.Int n) h = refl
of_sort_type J (num.Long n) h = refl
of_sort_type A (num.Ref n) h = refl
of_sort_type t n h = elim h [ ]

-- ---- locals

pub of_sort_gives : (l : Option Num) (s : Sort) → fits (sort_of_local l) s ≡ true → Gives (of_sort s l) s
of_sort_gives None s h = absurd (cc)
of_sort_gives (Some n) s h = record { value = n; is = ap (λ (b : Bool). if b then Some n else None) h; sort = fits_same (sort_of n) s h }

pub holds_gives : (locals : List (Option Num)) (k : ℕ) (s : Sort) → holds (slice_get (map sort_of_local locals) k) s ≡ true → Gives (slice_get locals k >>= of_sort s) s
holds_gives [] k s h = absurd (cc)
holds_gives (l ∷ locals) zero s h = of_sort_gives l s h
holds_gives (l ∷ locals) (suc k) s h = holds_gives locals k s h

pub increased_gives : (k : ℤ) (found : Option Num) → Gives found sort.Int → Gives (found >>= increased k) sort.Int
increased_gives k found g = subst (λ o. Gives (o >>= increased k) sort.Int) (sym g.is) (of_int g.value g.sort)
  where
    of_int : (n : Num) → sort_of n ≡ sort.Int → Gives (increased k n) sort.Int
    of_int (num.Int n) e = record { value = _; is = refl; sort = refl }
    of_int (num.Long n) e = absurd (cc)
    of_int (num.Ref n) e = absurd (cc)

-- a value of the same sort in the place of another
pub replaced_sorts : (locals : List (Option Num)) (k : ℕ) (s : Sort) (n : Num) → holds (slice_get (map sort_of_local locals) k) s ≡ true → sort_of n ≡ s → map sort_of_local (slice_set locals k (Some n)) ≡ map sort_of_local locals
replaced_sorts [] k s n h e = absurd (cc)
replaced_sorts (l ∷ locals) zero s n h e = ap (λ (x : Sort). x ∷ map sort_of_local locals) (e ∙ sym (fits_same (sort_of_local l) s h))
replaced_sorts (l ∷ locals) (suc k) s n h e = ap (λ (xs : List Sort). sort_of_local l ∷ xs) (replaced_sorts locals k s n h e)

-- ---- the start

locals_sorts : (t : JType) (n : Num) → IsOfType t n → map sort_of_local (locals_of n) ≡ sorts_of t
locals_sorts Z (num.Int n) h = refl
locals_sorts B (num.Int n) h = refl
locals_sorts C (num.Int n) h = refl
locals_sorts S (num.Int n) h = refl
locals_sorts I (num.Int n) h = refl
locals_sorts J (num.Long n) h = refl
locals_sorts A (num.Ref n) h = refl
locals_sorts t n h = elim h [ ]

args_sorts : (ts : List JType) (args : List Num) → AllZip IsOfType ts args → map sort_of_local (flat_map locals_of args) ≡ flat_map sorts_of ts
args_sorts [] [] all = refl
args_sorts [] (n ∷ args) all = elim all [ ]
args_sorts (t ∷ ts) [] all = elim all [ ]
args_sorts (t ∷ ts) (n ∷ args) all =
    map-append sort_of_local (locals_of n) (flat_map locals_of args) ∙ ap (λ (l : List Sort). l ++ map sort_of_local (flat_map locals_of args)) (locals_sorts t n all.0) ∙ ap (λ (l : List Sort). sorts_of t ++ l) (args_sorts ts args all.1)

passed_sorts : (instance : Bool) (ts : List JType) (input : Input) → AllZip IsOfType ts input.args → map sort_of_local (flat_map locals_of (passed instance input)) ≡ this_sorts instance ++ flat_map sorts_of ts
passed_sorts true ts input all = ap (λ (l : List Sort). sort.Ref ∷ l) (args_sorts ts input.args all)
passed_sorts false ts input all = args_sorts ts input.args all

replicate_sorts : (n : ℕ) → map sort_of_local (replicate n None) ≡ replicate n sort.Unknown
replicate_sorts zero = refl
replicate_sorts (suc n) = ap (λ (l : List Sort). sort.Unknown ∷ l) (replicate_sorts n)

pub padded_locals : (n : ℕ) (locals : List (Option Num)) (sorts : List Sort) → map sort_of_local locals ≡ sorts → map sort_of_local (padded n locals) ≡ padded_sorts n sorts
padded_locals n locals sorts e =
    let long : length locals ≡ length sorts = sym (length-map locals sort_of_local) ∙ ap length e in
    map-append sort_of_local locals (replicate (n - length locals) None) ∙ ap (λ (l : List Sort). l ++ map sort_of_local (replicate (n - length locals) None)) e
    ∙ ap (λ (l : List Sort). sorts ++ l) (replicate_sorts (n - length locals)) ∙ ap (λ (m : ℕ). sorts ++ replicate (n - m) sort.Unknown) long

pub start_sorts : (p : Program) (input : Input) → AllZip IsOfType p.desc.params input.args → map sort_of_local (padded p.max_locals (flat_map locals_of (passed p.instance input))) ≡ padded_sorts p.max_locals (passed_to p)
start_sorts p input all = padded_locals p.max_locals (flat_map locals_of (passed p.instance input)) (passed_to p) (passed_sorts p.instance p.desc.params input all)
