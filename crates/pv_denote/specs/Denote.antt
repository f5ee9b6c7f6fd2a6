-- What a node means: its value in a world, at an input and an iteration of each loop, with some fuel.
use Rattle.std.specs.Prelude.{◌≡◌, ◌↔◌, ℕ, zero, suc, ℤ, pos, Bool, true, false, not, List, [], ◌∷◌, Option, Some, None, slice_get, ◌==◌, if◌then◌else◌}
use Rattle.std.specs.Ordering.{int_eq}
use Rattle.pv_value.specs.Spelled.{bind, field_type, method_type}
use Rattle.pv_value.specs.Operations.{Word, int, long, takes, gives, scalar_of}
use Rattle.pv_value.specs.Worlds as worlds
use Rattle.pv_value.specs.Worlds.{length_of, literal_of}
use Rattle.pv_value.specs.Narrowing.{element_type, static_place, field_place, read_as, written_as}
use Rattle.pv_value.specs.declared.world.World.{World}
use Rattle.pv_value.specs.declared.name.Sym.{Sym}
use Rattle.pv_value.specs.declared.heap.Heap.{Heap}
use Rattle.pv_value.specs.declared.heap.Loc.TheVariants.{Elem}
use Rattle.pv_value.specs.declared.descriptor.JType.{JType}
use Rattle.pv_value.specs.declared.descriptor.JType.TheVariants as jtype
use Rattle.pv_value.specs.declared.operation.ScalarOp.{ScalarOp}
use Rattle.pv_value.specs.declared.number.Num.{Num}
use Rattle.pv_value.specs.declared.number.Num.TheVariants as num
use Rattle.pv_value.specs.declared.outcome.Input.{Input}
use Rattle.pv_value.specs.declared.outcome.Outcome.{Outcome}
use Rattle.pv_value.specs.declared.outcome.Outcome.TheVariants.{Returned, Threw}
use Rattle.pv_value.specs.declared.outcome.Fault.{Fault}
use Rattle.pv_value.specs.declared.outcome.Fault.TheVariants as fault
use Rattle.pv_value.specs.declared.outcome.Val.{Val}
use Rattle.pv_value.specs.declared.outcome.Val.TheVariants as val
use Rattle.pv_graph.specs.declared.node.Op.{Op}
use Rattle.pv_graph.specs.declared.node.Op.TheVariants as op
use Rattle.pv_graph.specs.declared.node.OpSort.{OpSort}
use Rattle.pv_graph.specs.declared.node.OpSort.TheVariants.{I, L}
use Rattle.pv_graph.specs.Forms.{Form, form}
use Rattle.pv_graph.specs.Ops.{Shape, plain, choice, theta, eval, pass, shift, root, shape}

-- an iteration for each depth
abbrev pub Index : Type 0
Index = ℕ → ℕ

-- outside every loop
abbrev pub outside : Index
outside depth = 0

-- the index with k as its iteration at depth d
abbrev pub at_depth : Index → ℕ → ℕ → Index
at_depth i d k e = if e == d then k else i e

-- ---- the operations that need the values of all their kids

-- the values of all kids, where each has one
abbrev pub values : {N : Type 0} → (N → Option Val) → List N → Option (List Val)
values kid [] = Some []
values kid (k ∷ ks) = bind (kid k) (λ v. bind (values kid ks) (λ vs. Some (v ∷ vs)))

-- the number where it is of this sort, else 0 or null; no argument is of another sort than I, L or A, so the rest is as A
abbrev pub number_of : OpSort → Option Num → Num
number_of I (Some (num.Int n)) = num.Int n
number_of I n = num.Int (pos 0)
number_of L (Some (num.Long n)) = num.Long n
number_of L n = num.Long (pos 0)
number_of s (Some (num.Ref r)) = num.Ref r
number_of s n = num.Ref 0

-- argument j, counted from 0 without this, as a number of this sort
abbrev pub param_of : List Num → ℕ → OpSort → Num
param_of args j s = number_of s (slice_get args j)

abbrev pub is_clear : Fault → ℤ
is_clear fault.Clear = pos 1
is_clear f = pos 0

abbrev pub same_ref : ℕ → ℕ → ℤ
same_ref a b = if a == b then pos 1 else pos 0

-- a number of this word
abbrev pub operand : Word → Val → Option ℤ
operand int (val.Num (num.Int n)) = Some n
operand long (val.Num (num.Long n)) = Some n
operand s v = None

abbrev pub num_of : Word → ℤ → Num
num_of int n = num.Int n
num_of long n = num.Long n

abbrev pub scalar_on : ScalarOp → List Word → List Val → Option ℤ
scalar_on o (s ∷ []) (u ∷ []) = bind (operand s u) (λ a. Some (scalar_of o a (pos 0)))
scalar_on o (s ∷ t ∷ []) (u ∷ v ∷ []) = bind (operand s u) (λ a. bind (operand t v) (λ b. Some (scalar_of o a b)))
scalar_on o ss vs = None

-- an operation on numbers
abbrev pub scalar_value : ScalarOp → List Val → Option Val
scalar_value o vs = bind (scalar_on o (takes o) vs) (λ n. Some (val.Num (num_of (gives o) n)))

-- the arguments of a call
abbrev pub numbers : List Val → Option (List Num)
numbers [] = Some []
numbers (val.Num n ∷ vs) = bind (numbers vs) (λ ns. Some (n ∷ ns))
numbers vs = None

-- 0 or null, as a type has it
abbrev pub default_of : JType → Num
default_of jtype.J = num.Long (pos 0)
default_of jtype.A = num.Ref 0
default_of t = num.Int (pos 0)

-- the parts of a reply to a call at a heap, where there is one
abbrev pub reply_result : JType → Option Outcome → Num
reply_result t (Some (Returned (Some n) h)) = n
reply_result t reply = default_of t

abbrev pub reply_fault : Option Outcome → Fault
reply_fault (Some (Threw f h)) = f
reply_fault reply = fault.Clear

abbrev pub reply_heap : Heap → Option Outcome → Heap
reply_heap h (Some (Returned r after)) = after
reply_heap h (Some (Threw f after)) = after
reply_heap h None = h

-- what each operation of a call gives, from the reply and the heap before the call
abbrev pub end_part : Option Outcome → Heap → Option Val
end_part reply h = bind reply (λ o. Some val.Unit)

abbrev pub result_part : Sym → Option Outcome → Heap → Option Val
result_part s reply h = bind (method_type s.desc) (λ d. bind d.result (λ t. Some (val.Num (reply_result t reply))))

abbrev pub fault_part : Option Outcome → Heap → Option Val
fault_part reply h = Some (val.Fault (reply_fault reply))

abbrev pub heap_part : Option Outcome → Heap → Option Val
heap_part reply h = Some (val.Heap (reply_heap h reply))

-- a call's part, over the heap and the arguments
abbrev pub over_call : World → Sym → (Option Outcome → Heap → Option Val) → List Val → Option Val
over_call w s part (val.Heap h ∷ vs) = bind (numbers vs) (λ args. part (worlds.reply w s h args) h)
over_call w s part vs = None

-- the value of an operation over the values of its kids
unfoldable pub strict : World → Input → Op → List Val → Option Val
strict w x (op.Int c) [] = Some (val.Num (num.Int c))
strict w x (op.Long c) [] = Some (val.Num (num.Long c))
strict w x op.Null [] = Some (val.Num (num.Ref 0))
strict w x (op.Literal t) [] = Some (val.Num (num.Ref (literal_of w t)))
strict w x (op.Param j s) [] = Some (val.Num (param_of x.args j s))
strict w x op.This [] = Some (val.Num (num.Ref x.this))
strict w x op.Heap0 [] = Some (val.Heap x.heap)
strict w x op.Unit [] = Some val.Unit
strict w x op.Clear [] = Some (val.Fault fault.Clear)
strict w x op.FNull [] = Some (val.Fault fault.Null)
strict w x op.FArith [] = Some (val.Fault fault.Arith)
strict w x op.FIndex [] = Some (val.Fault fault.Index)
strict w x op.Zero [] = Some (val.Count 0)
strict w x op.Succ (val.Count k ∷ []) = Some (val.Count (suc k))
strict w x op.Thrown (val.Num (num.Ref r) ∷ []) = Some (val.Fault (fault.Thrown r))
strict w x op.IsClear (val.Fault f ∷ []) = Some (val.Num (num.Int (is_clear f)))
strict w x op.Both (val.Unit ∷ val.Unit ∷ []) = Some val.Unit
strict w x (op.Scalar o) vs = scalar_value o vs
strict w x op.Aeq (val.Num (num.Ref a) ∷ val.Num (num.Ref b) ∷ []) = Some (val.Num (num.Int (same_ref a b)))
strict w x (op.GetStatic s) (val.Heap h ∷ []) = bind (field_type s.desc) (λ t. bind (read_as t h (static_place w s)) (λ n. Some (val.Num n)))
strict w x (op.PutStatic s) (val.Heap h ∷ val.Num n ∷ []) = bind (field_type s.desc) (λ t. bind (written_as t h (static_place w s) n) (λ m. Some (val.Heap m)))
strict w x (op.GetField s) (val.Heap h ∷ val.Num (num.Ref r) ∷ []) = bind (field_type s.desc) (λ t. bind (read_as t h (field_place w r s)) (λ n. Some (val.Num n)))
strict w x (op.PutField s) (val.Heap h ∷ val.Num (num.Ref r) ∷ val.Num n ∷ []) = bind (field_type s.desc) (λ t. bind (written_as t h (field_place w r s) n) (λ m. Some (val.Heap m)))
strict w x (op.Load k) (val.Heap h ∷ val.Num (num.Ref r) ∷ val.Num (num.Int i) ∷ []) = bind (read_as (element_type w k r) h (Elem k r i)) (λ n. Some (val.Num n))
strict w x (op.Store k) (val.Heap h ∷ val.Num (num.Ref r) ∷ val.Num (num.Int i) ∷ val.Num n ∷ []) = bind (written_as (element_type w k r) h (Elem k r i) n) (λ m. Some (val.Heap m))
strict w x op.Length (val.Num (num.Ref r) ∷ []) = Some (val.Num (num.Int (length_of w r)))
strict w x (op.CallEnd s) vs = over_call w s end_part vs
strict w x (op.CallRes s) vs = over_call w s (result_part s) vs
strict w x (op.CallFault s) vs = over_call w s fault_part vs
strict w x (op.CallHeap s) vs = over_call w s heap_part vs
strict w x o vs = None

-- ---- the others

-- an int, where 0 is false
abbrev pub truth : Val → Option Bool
truth (val.Num (num.Int n)) = Some (not (int_eq n (pos 0)))
truth v = None

abbrev pub count_of : Val → Option ℕ
count_of (val.Count k) = Some k
count_of v = None

abbrev pub unit_of : Val → Option (Unit {0})
unit_of val.Unit = Some tt
unit_of v = None

abbrev pub fault_of : Val → Option Fault
fault_of (val.Fault f) = Some f
fault_of v = None

abbrev pub heap_of : Val → Option Heap
heap_of (val.Heap h) = Some h
heap_of v = None

-- a number, or a unit for void
abbrev pub result_of : Val → Option (Option Num)
result_of (val.Num n) = Some (Some n)
result_of val.Unit = Some None
result_of v = None

-- the first kid at iteration 0, and else the second one iteration earlier
abbrev pub by_iteration : {N : Type 0} → (N → Index → Option Val) → ℕ → N → N → Index → ℕ → Option Val
by_iteration ev d a b i zero = ev a i
by_iteration ev d a b i (suc k) = ev b (at_depth i d k)

-- a pass ends at iteration j where its test is true, and looks further where it is false
abbrev pub looked : ℕ → Bool → (ℕ → Option Val) → Option Val
looked j true later = Some (val.Count j)
looked j false later = later (suc j)

-- the end of a method: with its result where the fault is clear, which alone is then needed
abbrev pub ending : {N : Type 0} → (N → Index → Option Val) → N → Index → Heap → Fault → Option Val
ending ev r i h fault.Clear = bind (ev r i) (λ v. bind (result_of v) (λ n. Some (val.End (Returned n h))))
ending ev r i h f = Some (val.End (Threw f h))

-- the value of an operation over kids: ev gives the value of a kid, and later that of a pass from an iteration on
abbrev pub shaped : {N : Type 0} → World → Input → (N → Index → Option Val) → (ℕ → N → Index → ℕ → Option Val) → Shape → Op → List N → Index → Option Val
shaped w x ev later plain o ks i = bind (values (λ k. ev k i) ks) (strict w x o)
shaped w x ev later choice o (c ∷ a ∷ b ∷ []) i = bind (ev c i) (λ v. bind (truth v) (λ t. ev (if t then a else b) i))
shaped w x ev later (theta d) o (a ∷ b ∷ []) i = by_iteration ev d a b i (i d)
shaped w x ev later (eval d) o (a ∷ p ∷ []) i = bind (ev p i) (λ v. bind (count_of v) (λ k. ev a (at_depth i d k)))
shaped w x ev later (pass d) o (c ∷ []) i = bind (ev c (at_depth i d 0)) (λ v. bind (truth v) (λ t. looked 0 t (later d c i)))
shaped w x ev later (shift d) o (a ∷ []) i = ev a (at_depth i d (suc (i d)))
shaped w x ev later root o (t ∷ f ∷ r ∷ h ∷ []) i =
    bind (ev t i) (λ u. bind (unit_of u) (λ ended. bind (ev f i) (λ y. bind (fault_of y) (λ e. bind (ev h i) (λ z. bind (heap_of z) (λ m. ending ev r i m e))))))
shaped w x ev later s o ks i = None

abbrev pub formed : {N : Type 0} → World → Input → (N → Index → Option Val) → (ℕ → N → Index → ℕ → Option Val) → Index → Form N → Option Val
formed w x ev later i (form o ks) = shaped w x ev later (shape o) o ks i

unfoldable mutual
  -- with fuel 0 there is no value, and a kid is evaluated with one unit less
  pub den : {N : Type 0} → (N → Option (Form N)) → World → Input → ℕ → N → Index → Option Val
  den view w x zero n i = None
  den view w x (suc fuel) n i = bind (view n) (formed w x (den view w x fuel) (looks view w x fuel) i)

  -- a pass from iteration j on: it looks at iteration 0 with as much fuel as a kid has, and at each later one with one unit less
  pub looks : {N : Type 0} → (N → Option (Form N)) → World → Input → ℕ → ℕ → N → Index → ℕ → Option Val
  looks view w x zero d c i j = None
  looks view w x (suc fuel) d c i j = bind (den view w x fuel c (at_depth i d j)) (λ v. bind (truth v) (λ t. looked j t (looks view w x fuel d c i)))

-- the value that some fuel gives
abbrev pub Value : {N : Type 0} → (N → Option (Form N)) → World → Input → N → Index → Val → Type 0
Value view w x n i v = (fuel : ℕ) × (den view w x fuel n i ≡ Some v)

-- both have one and the same value there, or neither has one
abbrev pub SameAt : {N : Type 0} → (N → Option (Form N)) → World → Input → Index → N → N → Type 0
SameAt view w x i a b = (v : Val) → Value view w x a i v ↔ Value view w x b i v
