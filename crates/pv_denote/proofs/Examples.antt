-- Small graphs, and what their nodes mean, by computing.
use Rattle.std.specs.Prelude.{◌≡◌, ℕ, zero, suc, ℤ, pos, negsuc, List, [], ◌∷◌, Option, Some, None, slice_get, refl, ◌⊎◌}
use Rattle.std.specs.Int.{int_wrap}
use Rattle.std.specs.FinMap.{empty, get-empty}
use Rattle.std.proofs.Common.{ap, subst, arith, inl, inr, sym}
use Rattle.std.proofs.lemmas.Option.{same_Some}
use Rattle.pv_value.specs.CallOrder.{key_cmp}
use Rattle.pv_value.specs.Reading.{field_at}
use Rattle.pv_value.specs.Spelled.{bind, params_at}
use Rattle.pv_value.specs.Worlds.{empty_world}
use Rattle.pv_value.specs.Heaps.{written}
use Rattle.pv_value.specs.Narrowing.{kept, shown, read_as}
use Rattle.pv_value.proofs.Cited.{read_same}
use Rattle.pv_value.specs.declared.name.Sym.{Sym}
use Rattle.pv_value.specs.declared.heap.Heap.{Heap}
use Rattle.pv_value.specs.declared.heap.Loc.{Loc}
use Rattle.pv_value.specs.declared.descriptor.JType.TheVariants as jtype
use Rattle.pv_value.specs.declared.operation.ScalarOp.TheVariants.{Iadd, Idiv, Irem, Ishl, Ishr, Iushr, Ieq, I2b, I2c, Lcmp}
use Rattle.pv_value.specs.Operations.{scalar_of}
use Rattle.pv_value.specs.declared.number.Num.TheVariants as num
use Rattle.pv_value.specs.declared.outcome.Input.{Input}
use Rattle.pv_value.specs.declared.outcome.Outcome.{Outcome}
use Rattle.pv_value.specs.declared.outcome.Outcome.TheVariants.{Returned, Threw}
use Rattle.pv_value.specs.declared.world.CallKey.{CallKey}
use Rattle.pv_value.specs.declared.outcome.Fault.TheVariants as fault
use Rattle.pv_value.specs.declared.outcome.Val.{Val}
use Rattle.pv_value.specs.declared.outcome.Val.TheVariants as val
use Rattle.pv_graph.specs.declared.node.Op.{Op}
use Rattle.pv_graph.specs.declared.node.Op.TheVariants as op
use Rattle.pv_graph.specs.declared.node.OpSort.{OpSort}
use Rattle.pv_graph.specs.declared.node.OpSort.TheVariants as sort
use Rattle.pv_graph.specs.declared.node.Node.{Node}
use Rattle.pv_graph.specs.Ops.{sort_over, HaveSorts, HasSort}
use Rattle.pv_graph.specs.Forms.{Form, form}
use Rattle.pv_denote.specs.Denote.{Index, outside, at_depth, reply_fault, strict, den, reply_result, reply_heap}
use Rattle.pv_graph.specs.Graphs.{form_at}
use Rattle.pv_graph.specs.Calls.{AreSorts}
use Rattle.std.specs.List.{AllZip}
use Rattle.pv_graph.specs.Unfold.{UnfoldEqually}
use Rattle.pv_graph.proofs.Cited.{Matched, Bisimulates, bisimulates_unfolds}

abbrev node : Op → List ℕ → Node
node o ks = record { op = o; kids = ks }

abbrev input : Input
input = record { this = 1; args = num.Int (pos 3) ∷ num.Int (pos 4) ∷ []; heap = empty }

-- what a node has with this fuel, in the empty world
abbrev has : List Node → ℕ → ℕ → Index → Option Val
has nodes fuel n i = den (form_at nodes) empty_world input fuel n i

abbrev an_int : ℤ → Option Val
an_int n = Some (val.Num (num.Int n))

-- ---- a counter: 0, and then one more in each iteration

abbrev counter : List Node
counter = node (op.Int (pos 0)) [] ∷ node (op.Theta 1) (0 ∷ 3 ∷ []) ∷ node (op.Int (pos 1)) [] ∷ node (op.Scalar Iadd) (1 ∷ 2 ∷ []) ∷ []

-- in iteration 5 it is 5, which takes 12 units of fuel
counter_short : has counter 11 1 (at_depth outside 1 5) ≡ None
unfolding den strict int_wrap
counter_short = refl

counter_at_5 : has counter 12 1 (at_depth outside 1 5) ≡ an_int (pos 5)
unfolding den strict int_wrap
counter_at_5 = refl

-- ---- a loop that counts to 3, and what is after it

abbrev loop : List Node
loop =
    node (op.Int (pos 0)) [] ∷ node (op.Theta 1) (0 ∷ 3 ∷ []) ∷ node (op.Int (pos 1)) [] ∷ node (op.Scalar Iadd) (1 ∷ 2 ∷ [])
    ∷ node (op.Param 0 sort.I) [] ∷ node (op.Scalar Ieq) (1 ∷ 4 ∷ []) ∷ node (op.Pass 1) (5 ∷ []) ∷ node (op.Eval 1) (1 ∷ 6 ∷ [])
    ∷ node (op.Shift 1) (1 ∷ []) ∷ node op.Zero [] ∷ node op.Succ (9 ∷ []) ∷ node (op.Eval 1) (1 ∷ 10 ∷ []) ∷ []

-- it ends in iteration 3
loop_ends : has loop 20 6 outside ≡ Some (val.Count 3)
unfolding den strict int_wrap
loop_ends = refl

-- and then the counter is 3
after_loop : has loop 20 7 outside ≡ an_int (pos 3)
unfolding den strict int_wrap
after_loop = refl

-- shifted, the counter in iteration 4 is what it is in iteration 5
shifted : has loop 20 8 (at_depth outside 1 4) ≡ an_int (pos 5)
unfolding den strict int_wrap
shifted = refl

-- evaluated in iteration 1, whatever the index
in_iteration_1 : has loop 20 11 (at_depth outside 1 9) ≡ an_int (pos 1)
unfolding den strict int_wrap
in_iteration_1 = refl

-- ---- one side, and ends of methods

abbrev sides : List Node
sides =
    node (op.Int (pos 1)) [] ∷ node (op.Int (pos 0)) [] ∷ node (op.Pass 1) (1 ∷ []) ∷ node (op.Eval 1) (0 ∷ 2 ∷ [])
    ∷ node op.Phi (0 ∷ 1 ∷ 3 ∷ []) ∷ node op.Phi (1 ∷ 3 ∷ 0 ∷ []) ∷ node op.Phi (1 ∷ 0 ∷ 3 ∷ [])
    ∷ node op.Unit [] ∷ node op.Clear [] ∷ node op.FArith [] ∷ node op.Heap0 []
    ∷ node op.Root (7 ∷ 8 ∷ 0 ∷ 10 ∷ []) ∷ node op.Root (7 ∷ 9 ∷ 3 ∷ 10 ∷ []) ∷ node op.Root (7 ∷ 8 ∷ 3 ∷ 10 ∷ []) ∷ node op.Root (7 ∷ 8 ∷ 7 ∷ 10 ∷ [])
    ∷ node op.Never [] ∷ node op.Both (7 ∷ 15 ∷ []) ∷ []

-- node 3 is after a loop that never ends, so it has no value; a choice needs the chosen side alone
first_side : has sides 9 4 outside ≡ an_int (pos 0)
unfolding den strict
first_side = refl

second_side : has sides 9 5 outside ≡ an_int (pos 1)
unfolding den strict
second_side = refl

endless_side : has sides 9 6 outside ≡ None
unfolding den strict
endless_side = refl

-- a method returns
returned : has sides 9 11 outside ≡ Some (val.End (Returned (Some (num.Int (pos 1))) empty))
unfolding den strict
returned = refl

-- throws, where its result is not needed
threw : has sides 9 12 outside ≡ Some (val.End (Threw fault.Arith empty))
unfolding den strict
threw = refl

-- has no end, where its result is needed and has no value
without_result : has sides 9 13 outside ≡ None
unfolding den strict
without_result = refl

-- or returns nothing
void : has sides 9 14 outside ≡ Some (val.End (Returned None empty))
unfolding den strict
void = refl

never : has sides 9 16 outside ≡ None
unfolding den strict
never = refl

-- ---- operations on numbers

by_zero : scalar_of Idiv (pos 7) (pos 0) ≡ pos 0
unfolding int_wrap
by_zero = refl

remainder_by_zero : scalar_of Irem (pos 7) (pos 0) ≡ pos 0
unfolding int_wrap
remainder_by_zero = refl

towards_zero : scalar_of Idiv (negsuc 6) (pos 2) ≡ negsuc 2
unfolding int_wrap
towards_zero = refl

least_by_minus_1 : scalar_of Idiv (negsuc 2147483647) (negsuc 0) ≡ negsuc 2147483647
unfolding int_wrap
least_by_minus_1 = refl

sign_of_dividend : scalar_of Irem (negsuc 6) (pos 2) ≡ negsuc 0
unfolding int_wrap
sign_of_dividend = refl

wraps : scalar_of Iadd (pos 2147483647) (pos 1) ≡ negsuc 2147483647
unfolding int_wrap
wraps = refl

count_is_cut : scalar_of Ishl (pos 1) (pos 33) ≡ pos 2
unfolding int_wrap
count_is_cut = refl

keeps_sign : scalar_of Ishr (negsuc 7) (pos 1) ≡ negsuc 3
unfolding int_wrap
keeps_sign = refl

fills_with_zeros : scalar_of Iushr (negsuc 7) (pos 28) ≡ pos 15
unfolding int_wrap
fills_with_zeros = refl

byte : scalar_of I2b (pos 200) (pos 0) ≡ negsuc 55
unfolding int_wrap
byte = refl

char : scalar_of I2c (negsuc 0) (pos 0) ≡ pos 65535
unfolding int_wrap
char = refl

compared : scalar_of Lcmp (pos 1) (pos 2) ≡ negsuc 0
unfolding int_wrap
compared = refl

division_in_a_graph : has (node (op.Int (pos 7)) [] ∷ node (op.Int (pos 0)) [] ∷ node (op.Scalar Idiv) (0 ∷ 1 ∷ []) ∷ []) 2 2 outside ≡ an_int (pos 0)
unfolding den strict int_wrap
division_in_a_graph = refl

-- ---- sorts

abbrev symbol : List ℕ → Sym
symbol desc = record { class = []; name = []; desc = desc }

ints : sort_over (op.Scalar Iadd) (sort.I ∷ sort.I ∷ []) ≡ Some sort.I
ints = refl

int_and_long : sort_over (op.Scalar Iadd) (sort.I ∷ sort.L ∷ []) ≡ None
int_and_long = refl

too_deep : sort_over (op.Theta 17) (sort.I ∷ sort.I ∷ []) ≡ None
too_deep = refl

deepest : sort_over (op.Theta 16) (sort.H ∷ sort.H ∷ []) ≡ Some sort.H
deepest = refl

-- J
long_field : sort_over (op.GetField (symbol (74 ∷ []))) (sort.H ∷ sort.A ∷ []) ≡ Some sort.L
unfolding field_at
long_field = refl

-- F
float_field : sort_over (op.GetStatic (symbol (70 ∷ []))) (sort.H ∷ []) ≡ None
unfolding field_at
float_field = refl

-- (I[J)V
void_call : sort_over (op.CallEnd (symbol (40 ∷ 73 ∷ 91 ∷ 74 ∷ 41 ∷ 86 ∷ []))) (sort.H ∷ sort.I ∷ sort.A ∷ []) ≡ Some sort.T
unfolding field_at params_at
void_call = refl

void_result : sort_over (op.CallRes (symbol (40 ∷ 73 ∷ 91 ∷ 74 ∷ 41 ∷ 86 ∷ []))) (sort.H ∷ sort.I ∷ sort.A ∷ []) ≡ None
unfolding field_at params_at
void_result = refl

no_method : sort_over (op.CallHeap (symbol (40 ∷ 73 ∷ []))) (sort.H ∷ sort.I ∷ []) ≡ None
unfolding field_at params_at
no_method = refl

-- ---- the heap and the table of calls

-- what is written as a byte is read as one: 300 is 44
abbrev byte_field : Sym
byte_field = symbol (66 ∷ [])

kept_byte : kept jtype.B (num.Int (pos 300)) ≡ Some (pos 44)
unfolding int_wrap
kept_byte = refl

written_byte : (at : Loc) (h : Heap) → read_as jtype.B (written h at (pos 44)) at ≡ Some (num.Int (pos 44))
unfolding int_wrap
written_byte at h = ap (shown jtype.B) (read_same h at (pos 44))

abbrev call_nodes : List Node
call_nodes = node op.Heap0 [] ∷ node (op.CallEnd (symbol (40 ∷ 41 ∷ 86 ∷ []))) (0 ∷ []) ∷ node (op.CallFault (symbol (40 ∷ 41 ∷ 86 ∷ []))) (0 ∷ []) ∷ []

abbrev call : CallKey
call = record { sym = symbol (40 ∷ 41 ∷ 86 ∷ []); heap = empty; args = [] }

-- a call that the table lacks never ends, and its fault is clear
no_call : has call_nodes 3 1 outside ≡ None
unfolding den strict
no_call = ap (λ (o : Option Outcome). bind o (λ r. Some val.Unit)) (get-empty key_cmp call)

no_fault : has call_nodes 3 2 outside ≡ Some (val.Fault fault.Clear)
unfolding den strict
no_fault = ap (λ (o : Option Outcome). Some (val.Fault (reply_fault o))) (get-empty key_cmp call)

-- ---- bases

-- a cycle that takes no second kid of a theta, but whose sorts fit
iadd_of_itself : AreSorts (node (op.Scalar Iadd) (1 ∷ 1 ∷ []) ∷ node (op.Int (pos 0)) [] ∷ []) (sort.I ∷ sort.I ∷ [])
iadd_of_itself = record { long = refl; each = each }
  where
    first : (n : Node) (s : OpSort) → Some (node (op.Scalar Iadd) (1 ∷ 1 ∷ [])) ≡ Some n → Some sort.I ≡ Some s → HasSort (sort.I ∷ sort.I ∷ []) n.op n.kids s
    first n s e f =
        subst (λ (x : Node). HasSort (sort.I ∷ sort.I ∷ []) x.op x.kids s) (same_Some _ n e)
        (subst (λ (r : OpSort). HasSort (sort.I ∷ sort.I ∷ []) (op.Scalar Iadd) (1 ∷ 1 ∷ []) r) (same_Some sort.I s f) (record { sorts = sort.I ∷ sort.I ∷ []; kids_have = (refl, (refl, tt)); over = refl }))

    second : (n : Node) (s : OpSort) → Some (node (op.Int (pos 0)) []) ≡ Some n → Some sort.I ≡ Some s → HasSort (sort.I ∷ sort.I ∷ []) n.op n.kids s
    second n s e f =
        subst (λ (x : Node). HasSort (sort.I ∷ sort.I ∷ []) x.op x.kids s) (same_Some _ n e)
        (subst (λ (r : OpSort). HasSort (sort.I ∷ sort.I ∷ []) (op.Int (pos 0)) [] r) (same_Some sort.I s f) (record { sorts = []; kids_have = tt; over = refl }))

    each : (k : ℕ) (n : Node) (s : OpSort) → slice_get (node (op.Scalar Iadd) (1 ∷ 1 ∷ []) ∷ node (op.Int (pos 0)) [] ∷ []) k ≡ Some n → slice_get (sort.I ∷ sort.I ∷ []) k ≡ Some s → HasSort (sort.I ∷ sort.I ∷ []) n.op n.kids s
    each zero n s e f = first n s e f
    each (suc zero) n s e f = second n s e f
    each (suc (suc k)) n s e f = absurd (let z = f in cc)

-- a kid that the list lacks
kid_lacks : (sorts : List OpSort) → AreSorts (node (op.Scalar Iadd) (1 ∷ 2 ∷ []) ∷ node (op.Int (pos 0)) [] ∷ []) sorts → ⊥
kid_lacks [] h = absurd (omega (arith, h.long))
kid_lacks (s ∷ []) h = absurd (omega (arith, h.long))
kid_lacks (s ∷ t ∷ []) h = lacks (h.each 0 (node (op.Scalar Iadd) (1 ∷ 2 ∷ [])) s refl refl)
  where
    third : (ss : List OpSort) → HaveSorts (s ∷ t ∷ []) (1 ∷ 2 ∷ []) ss → ⊥
    third [] y = y
    third (a ∷ []) y = y.1
    third (a ∷ b ∷ ss) y = absurd (let z = y.1.0 in cc)

    lacks : HasSort (s ∷ t ∷ []) (op.Scalar Iadd) (1 ∷ 2 ∷ []) s → ⊥
    lacks has = third has.sorts has.kids_have
kid_lacks (s ∷ t ∷ r ∷ ss) h = absurd (omega (arith, h.long))

-- ---- the fuel of a pass: iteration j takes j + 1 units more than its test

abbrev second_time : List Node
second_time = node (op.Int (pos 0)) [] ∷ node (op.Int (pos 1)) [] ∷ node (op.Theta 1) (0 ∷ 1 ∷ []) ∷ node (op.Pass 1) (2 ∷ []) ∷ []

-- the test of iteration 1 takes 2 units, so with 3 it has one too few
pass_short : has second_time 3 3 outside ≡ None
unfolding den strict
pass_short = refl

pass_at_1 : has second_time 4 3 outside ≡ Some (val.Count 1)
unfolding den strict
pass_at_1 = refl

-- ---- more of the table

clear_is_clear : strict empty_world input op.IsClear (val.Fault fault.Clear ∷ []) ≡ an_int (pos 1)
unfolding strict
clear_is_clear = refl

fault_is_not : strict empty_world input op.IsClear (val.Fault fault.Index ∷ []) ≡ an_int (pos 0)
unfolding strict
fault_is_not = refl

thrown_ref : strict empty_world input op.Thrown (val.Num (num.Ref 7) ∷ []) ≡ Some (val.Fault (fault.Thrown 7))
unfolding strict
thrown_ref = refl

same_refs : strict empty_world input op.Aeq (val.Num (num.Ref 7) ∷ val.Num (num.Ref 7) ∷ []) ≡ an_int (pos 1)
unfolding strict
same_refs = refl

-- the second argument is an int, and there is no sixth
argument : strict empty_world input (op.Param 1 sort.I) [] ≡ an_int (pos 4)
unfolding strict
argument = refl

of_another_sort : strict empty_world input (op.Param 1 sort.L) [] ≡ Some (val.Num (num.Long (pos 0)))
unfolding strict
of_another_sort = refl

no_argument : strict empty_world input (op.Param 5 sort.A) [] ≡ Some (val.Num (num.Ref 0))
unfolding strict
no_argument = refl

-- a boolean keeps its lowest bit
kept_boolean : kept jtype.Z (num.Int (pos 2)) ≡ Some (pos 0)
kept_boolean = refl

written_boolean : (at : Loc) (h : Heap) → read_as jtype.Z (written h at (pos 0)) at ≡ Some (num.Int (pos 0))
unfolding int_wrap
written_boolean at h = ap (shown jtype.Z) (read_same h at (pos 0))

-- a reference keeps its 64 bits
last_ref : kept jtype.A (num.Ref 18446744073709551615) ≡ Some (negsuc 0)
unfolding int_wrap
last_ref = refl

last_ref_back : shown jtype.A (negsuc 0) ≡ Some (num.Ref 18446744073709551615)
unfolding int_wrap
last_ref_back = refl

-- a long in the heap is an int by its low bits
cut_first : shown jtype.I (pos 4294967296) ≡ Some (num.Int (pos 0))
unfolding int_wrap
cut_first = refl

-- the parts of replies
no_result : reply_result jtype.J None ≡ num.Long (pos 0)
no_result = refl

result_of_throw : (h : Heap) → reply_result jtype.I (Some (Threw (fault.Thrown 7) h)) ≡ num.Int (pos 0)
result_of_throw h = refl

fault_of_throw : (h : Heap) → reply_fault (Some (Threw (fault.Thrown 7) h)) ≡ fault.Thrown 7
fault_of_throw h = refl

heap_of_throw : (h m : Heap) → reply_heap h (Some (Threw (fault.Thrown 7) m)) ≡ m
heap_of_throw h m = refl

-- ---- two counters unfold equally

abbrev two_counters : List Node
two_counters =
    node (op.Int (pos 0)) [] ∷ node (op.Theta 1) (0 ∷ 3 ∷ []) ∷ node (op.Int (pos 1)) [] ∷ node (op.Scalar Iadd) (1 ∷ 2 ∷ [])
    ∷ node (op.Theta 1) (0 ∷ 5 ∷ []) ∷ node (op.Scalar Iadd) (4 ∷ 2 ∷ []) ∷ []

abbrev Paired : ℕ → ℕ → Type 0
Paired a b = (a ≡ b) ⊎ (((a ≡ 1) × (b ≡ 4)) ⊎ ((a ≡ 3) × (b ≡ 5)))

each_with_itself : (ks : List ℕ) → AllZip Paired ks ks
each_with_itself [] = tt
each_with_itself (k ∷ ks) = (inl refl, each_with_itself ks)

matched_itself : (p : Option (Form ℕ)) → Matched Paired p p
matched_itself None = tt
matched_itself (Some (form o ks)) = (refl, each_with_itself ks)

counters_pair : Bisimulates (form_at two_counters) (form_at two_counters) Paired
counters_pair a b (inl e) = subst (λ (y : ℕ). Matched Paired (form_at two_counters a) (form_at two_counters y)) e (matched_itself (form_at two_counters a))
counters_pair a b (inr (inl e)) =
    let pair : Matched Paired (form_at two_counters 1) (form_at two_counters 4) = (refl, (inl refl, (inr (inr (refl, refl)), tt))) in
    subst (λ (x : ℕ). Matched Paired (form_at two_counters x) (form_at two_counters b)) (sym e.0) (subst (λ (y : ℕ). Matched Paired (form_at two_counters 1) (form_at two_counters y)) (sym e.1) pair)
counters_pair a b (inr (inr e)) =
    let pair : Matched Paired (form_at two_counters 3) (form_at two_counters 5) = (refl, (inr (inl (refl, refl)), (inl refl, tt))) in
    subst (λ (x : ℕ). Matched Paired (form_at two_counters x) (form_at two_counters b)) (sym e.0) (subst (λ (y : ℕ). Matched Paired (form_at two_counters 3) (form_at two_counters y)) (sym e.1) pair)

counters_unfold : UnfoldEqually (form_at two_counters) 1 4
counters_unfold = bisimulates_unfolds (form_at two_counters) (form_at two_counters) Paired counters_pair 1 4 (inr (inl (refl, refl)))
