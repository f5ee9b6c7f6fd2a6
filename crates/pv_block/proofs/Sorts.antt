-- Sorts: those of operands are known, and operations over operands have the sorts of what they give.
use Rattle.std.proofs.Common.{◌≡◌, ◌≢◌, Bool, true, List, [], ◌∷◌, Option, Some, None, refl, ap, sym, ◌∙◌}
use Rattle.pv_block.proofs.Words.{map, option_map, ◌&&◌, if◌then◌else◌, AllByRecursion, JType, Descriptor, Sym, bind, field_type, Sort, sort_of_type, sort_of_word, sort_of_kind, fits, OpSort, I, L, A, N, F, T, H, R, same_sort, same_sorts, exactly, word_sort, type_sort, kind_sort, field_sort, type_sorts, result_sort, call_sorts, sort_over, IsPlain, op_sort}
use Rattle.pv_value.specs.declared.descriptor.JType.TheVariants as jtype
use Rattle.pv_value.specs.declared.heap.Kind.{Kind}
use Rattle.pv_value.specs.declared.heap.Kind.TheVariants as kind
use Rattle.pv_value.specs.Operations as operation
use Rattle.pv_value.proofs.Cited.{method_spelled}
use Rattle.pv_frame.specs.declared.action.Action.TheVariants as act
use Rattle.pv_frame.specs.declared.sort.Sort.TheVariants as sort
use Rattle.pv_frame.specs.Actions.{IsFloatless, HasFloatlessResult}
use Rattle.pv_graph.specs.declared.node.Op.TheVariants as op

-- a value that is there where one of a sort is asked for has a sort
pub fits_known : (s t : Sort) → fits s t ≡ true → s ≢ sort.Unknown
fits_known sort.Unknown t e is = absurd (cc)
fits_known sort.Int t e is = absurd (cc)
fits_known sort.Long t e is = absurd (cc)
fits_known sort.Ref t e is = absurd (cc)

-- ---- operations

same_itself : (s : OpSort) → same_sort s s ≡ true
same_itself I = refl
same_itself L = refl
same_itself A = refl
same_itself N = refl
same_itself F = refl
same_itself T = refl
same_itself H = refl
same_itself R = refl

same_all : (ss : List OpSort) → same_sorts ss ss ≡ true
same_all [] = refl
same_all (s ∷ ss) = ap (λ b. b && same_sorts ss ss) (same_itself s) ∙ same_all ss

pub exactly_same : (ss : List OpSort) (t : OpSort) → exactly ss t ss ≡ Some t
exactly_same ss t = ap (λ (b : Bool). if b then Some t else None) (same_all ss)

word_sorts : (w : operation.Word) → op_sort (sort_of_word w) ≡ word_sort w
word_sorts operation.int = refl
word_sorts operation.long = refl

all_word_sorts : (ws : List operation.Word) → map op_sort (map sort_of_word ws) ≡ map word_sort ws
all_word_sorts [] = refl
all_word_sorts (w ∷ ws) = ap (λ (s : OpSort). s ∷ map op_sort (map sort_of_word ws)) (word_sorts w) ∙ ap (λ (l : List OpSort). word_sort w ∷ l) (all_word_sorts ws)

pub scalar_over : (o : _) → sort_over (op.Scalar o) (map op_sort (map sort_of_word (operation.takes o))) ≡ Some (op_sort (sort_of_word (operation.gives o)))
scalar_over o = ap (exactly (map word_sort (operation.takes o)) (word_sort (operation.gives o))) (all_word_sorts (operation.takes o)) ∙ exactly_same (map word_sort (operation.takes o)) (word_sort (operation.gives o)) ∙ ap Some (sym (word_sorts (operation.gives o)))

type_sorted : (t : JType) → IsFloatless t → type_sort t ≡ Some (op_sort (sort_of_type t))
type_sorted jtype.Z h = refl
type_sorted jtype.B h = refl
type_sorted jtype.C h = refl
type_sorted jtype.S h = refl
type_sorted jtype.I h = refl
type_sorted jtype.J h = refl
type_sorted jtype.A h = refl
type_sorted jtype.F h = absurd h
type_sorted jtype.D h = absurd h

pub field_over : (t : JType) (f : Sym) → IsFloatless t × (field_type f.desc ≡ Some t) → field_sort f ≡ Some (op_sort (sort_of_type t))
field_over t f h = ap (λ (o : Option JType). bind o type_sort) h.1 ∙ type_sorted t h.0

pub kind_sorts : (k : Kind) → kind_sort k ≡ op_sort (sort_of_kind k)
kind_sorts kind.Int = refl
kind_sorts kind.Long = refl
kind_sorts kind.Ref = refl
kind_sorts kind.Byte = refl
kind_sorts kind.Char = refl
kind_sorts kind.Short = refl

-- ---- calls

types_sorted : (ts : List JType) → AllByRecursion IsFloatless ts → type_sorts ts ≡ Some (map op_sort (map sort_of_type ts))
types_sorted [] h = refl
types_sorted (t ∷ ts) h =
    ap (λ (o : Option OpSort). bind o (λ s. bind (type_sorts ts) (λ ss. Some (s ∷ ss)))) (type_sorted t h.0) ∙ ap (λ (o : Option (List OpSort)). bind o (λ ss. Some (op_sort (sort_of_type t) ∷ ss))) (types_sorted ts h.1)

abbrev pub given : Option JType → Option OpSort
given r = option_map (λ t. op_sort (sort_of_type t)) r

result_sorted : (r : Option JType) → HasFloatlessResult r → result_sort r ≡ Some (given r)
result_sorted None h = refl
result_sorted (Some t) h = ap (λ (o : Option OpSort). bind o (λ s. Some (Some s))) (type_sorted t h)

-- the heap, then the arguments
abbrev pub taken_by_call : Descriptor → List OpSort
taken_by_call d = H ∷ map op_sort (map sort_of_type d.params)

pub call_sorted : (d : Descriptor) (f : Sym) → IsPlain (act.Call d f) → call_sorts f ≡ Some (record { kids = taken_by_call d; result = given d.result })
call_sorted d f p =
    ap (λ (o : Option Descriptor). bind o (λ d. bind (type_sorts d.params) (λ params. bind (result_sort d.result) (λ r. Some (record { kids = H ∷ params; result = r }))))) ((method_spelled f.desc d).1 p.0)
    ∙ ap (λ (o : Option (List OpSort)). bind o (λ params. bind (result_sort d.result) (λ r. Some (record { kids = H ∷ params; result = r })))) (types_sorted d.params p.1.0)
    ∙ ap (λ (o : Option (Option OpSort)). bind o (λ r. Some (record { kids = taken_by_call d; result = r }))) (result_sorted d.result p.1.1)
