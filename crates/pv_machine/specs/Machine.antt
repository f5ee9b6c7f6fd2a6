-- The machine (JVMS 2.6, 2.10, 6.5): what an instruction does to a state, and how a method ends.
use Rattle.std.specs.Prelude.{◌≡◌, ℕ, ℤ, pos, zero, suc, ◌+ℤ◌, ◌-◌, Bool, true, false, not, if◌then◌else◌, int_lt, List, [], ◌∷◌, ◌++◌, length, Option, Some, None, option_map, unwrap_or, slice_get, slice_set, replicate, nat_eq}
use Rattle.std.specs.List.{flat_map}
use Rattle.std.specs.Int.{w32, int_wrap}
use Rattle.std.specs.Ordering.{int_eq}
use Rattle.pv_value.specs.declared.number.Num.{Num}
use Rattle.pv_value.specs.declared.number.Num.TheVariants as num
use Rattle.pv_value.specs.declared.descriptor.JType.{JType}
use Rattle.pv_value.specs.declared.world.World.{World}
use Rattle.pv_value.specs.declared.outcome.Input.{Input}
use Rattle.pv_value.specs.declared.outcome.Outcome.{Outcome}
use Rattle.pv_value.specs.declared.outcome.Outcome.TheVariants.{Returned, Threw}
use Rattle.pv_value.specs.declared.outcome.Fault.{Fault}
use Rattle.pv_value.specs.declared.outcome.Fault.TheVariants as fault
use Rattle.pv_value.specs.declared.heap.Heap.{Heap}
use Rattle.pv_value.specs.declared.heap.Kind.TheVariants as kind
use Rattle.pv_value.specs.declared.heap.Loc.{Loc}
use Rattle.pv_value.specs.declared.heap.Loc.TheVariants.{Elem}
use Rattle.pv_value.specs.declared.operation.ScalarOp.{ScalarOp}
use Rattle.pv_value.specs.Operations as operation
use Rattle.pv_value.specs.Heaps.{read, written}
use Rattle.pv_value.specs.Worlds.{length_of, literal_of, reply}
use Rattle.pv_value.specs.Narrowing.{as_type, kept, shown, element_type, static_place, field_place}
use Rattle.pv_types.specs.Facts as types
use Rattle.pv_pool.specs.Readers.{◌>>=◌}
use Rattle.pv_class.specs.declared.file.ClassFile.{ClassFile}
use Rattle.pv_class.specs.declared.file.Method.{Method}
use Rattle.pv_insn.specs.declared.insn.Case.{Case}
use Rattle.pv_frame.specs.declared.sort.Sort.{Sort}
use Rattle.pv_frame.specs.declared.sort.Sort.TheVariants as sort
use Rattle.pv_frame.specs.declared.action.Comparison.{Comparison}
use Rattle.pv_frame.specs.declared.action.Comparison.TheVariants as comparison
use Rattle.pv_frame.specs.declared.action.Test.{Test}
use Rattle.pv_frame.specs.declared.action.Test.TheVariants as test
use Rattle.pv_frame.specs.declared.action.Action.{Action}
use Rattle.pv_frame.specs.declared.action.Action.TheVariants as act
use Rattle.pv_frame.specs.Stacks.{fits, popped, moved, has_room, set_local}
use Rattle.pv_frame.specs.Effects.{sort_of, sort_of_local, takes}
use Rattle.pv_frame.specs.declared.program.Program.{Program}
use Rattle.pv_frame.specs.Programs.{IsProgramOf}
use Rattle.pv_frame.specs.Frames.{HasFrames}

-- ---- states

-- a method in the middle of its run: the place of the next instruction, the operand stack with its top first, the locals, of which one may hold no value, the heap,
-- and the heap with which it started, where the world tells what is known of types
pub record State : Type 0 where
  pub at : ℕ
  pub stack : List Num
  pub locals : List (Option Num)
  pub heap : Heap
  pub heap0 : Heap

-- it runs on, or has ended
pub data Now : Type 0 where
  running : State → Now
  ended : Outcome → Now

-- a long takes two locals
abbrev pub locals_of : Num → List (Option Num)
locals_of (num.Int n) = Some (num.Int n) ∷ []
locals_of (num.Long n) = Some (num.Long n) ∷ None ∷ []
locals_of (num.Ref r) = Some (num.Ref r) ∷ []

-- `this` of an instance method, then the arguments
abbrev pub passed : Bool → Input → List Num
passed true input = num.Ref input.this ∷ input.args
passed false input = input.args

abbrev pub padded : ℕ → List (Option Num) → List (Option Num)
padded n locals = locals ++ replicate (n - length locals) None

abbrev pub start : Program → Input → State
start p input = record { at = 0; stack = []; locals = padded p.max_locals (flat_map locals_of (passed p.instance input)); heap = input.heap; heap0 = input.heap }

-- ---- where an instruction leads

-- to the next place
abbrev pub next : State → Now
next s = running (record s { at = suc s.at })

-- to the next place, with this value on the stack
abbrev pub pushes : State → Num → Now
pushes s n = next (record s { stack = n ∷ s.stack })

-- to the next place, with this number at a location of the heap
abbrev pub writes : State → Loc → ℤ → Now
writes s at n = next (record s { heap = written s.heap at n })

-- to a target
abbrev pub goes : State → ℕ → Now
goes s target = running (record s { at = target })

-- it throws, and the method ends, since it has no handlers (JVMS 2.10)
abbrev pub throws : State → Fault → Now
throws s f = ended (Threw f s.heap)

-- ---- locals

abbrev pub of_sort : Sort → Option Num → Option Num
of_sort s (Some n) = if fits (sort_of n) s then Some n else None
of_sort s None = None

-- the value in a local, where it has this sort
abbrev pub held : List (Option Num) → ℕ → Sort → Option Num
held locals k t = slice_get locals k >>= of_sort t

abbrev pub local : State → ℕ → Sort → Option Num
local s k t = held s.locals k t

abbrev pub stored : State → ℕ → Num → Option State
stored s k n = if has_room (sort_of n) k s.locals then Some (record s { locals = set_local sort_of_local None k (Some n) s.locals }) else None

-- iinc wraps as iadd does
abbrev pub increased : ℤ → Num → Option Num
increased k (num.Int n) = Some (num.Int (int_wrap w32 (n +ℤ k)))
increased k _ = None

-- ---- operations

-- the value of an operation on one number or two
abbrev pub number_of : Num → ℤ
number_of (num.Int n) = n
number_of (num.Long n) = n
number_of (num.Ref r) = pos r

abbrev pub num_of : operation.Word → ℤ → Num
num_of operation.int n = num.Int n
num_of operation.long n = num.Long n

abbrev pub value_of : ScalarOp → ℤ → ℤ → Num
value_of op a b = num_of (operation.gives op) (operation.scalar_of op a b)

abbrev pub computed : ScalarOp → List Num → Option Num
computed op (a ∷ []) = Some (value_of op (number_of a) (pos 0))
computed op (a ∷ b ∷ []) = Some (value_of op (number_of a) (number_of b))
computed op _ = None

-- a zero divisor throws (JVMS 6.5.idiv, irem, ldiv, lrem)
abbrev pub divided : State → ScalarOp → List Num → Option Now
divided s op (a ∷ b ∷ []) = Some (if int_eq (number_of b) (pos 0) then throws s fault.Arith else pushes s (value_of op (number_of a) (number_of b)))
divided s op _ = None

-- ---- tests

abbrev pub compares : Comparison → ℤ → ℤ → Bool
compares comparison.Eq a b = int_eq a b
compares comparison.Ne a b = not (int_eq a b)
compares comparison.Lt a b = int_lt a b
compares comparison.Ge a b = not (int_lt a b)
compares comparison.Gt a b = int_lt b a
compares comparison.Le a b = not (int_lt b a)

abbrev pub tested : Test → List Num → Option Bool
tested (test.Zero c) (num.Int a ∷ []) = Some (compares c a (pos 0))
tested (test.Ints c) (num.Int a ∷ num.Int b ∷ []) = Some (compares c a b)
tested test.Same (num.Ref a ∷ num.Ref b ∷ []) = Some (nat_eq a b)
tested test.Other (num.Ref a ∷ num.Ref b ∷ []) = Some (not (nat_eq a b))
tested test.Null (num.Ref a ∷ []) = Some (nat_eq a 0)
tested test.NonNull (num.Ref a ∷ []) = Some (not (nat_eq a 0))
tested t _ = None

abbrev pub branches : State → ℕ → Bool → Now
branches s target holds = if holds then goes s target else next s

-- the target of the case with this key, or else the default
abbrev pub target_of : ℕ → List Case → ℤ → ℕ
target_of default [] n = default
target_of default (c ∷ cases) n = if int_eq c.key n then c.target else target_of default cases n

-- ---- fields and elements

abbrev pub shows : State → JType → Loc → Option Now
shows s t at = option_map (pushes s) (shown t (read s.heap at))

abbrev pub keeps : State → JType → Loc → Num → Option Now
keeps s t at n = option_map (writes s at) (kept t n)

-- an access of an element throws on null, and else where the index isn't in 0 to length - 1
abbrev pub element_fault : World → ℕ → ℤ → Option Fault
element_fault w zero i = Some fault.Null
element_fault w (suc r) i = if int_lt i (pos 0) then Some fault.Index else if int_lt i (length_of w (suc r)) then None else Some fault.Index

abbrev pub unless : State → Option Fault → Option Now → Option Now
unless s (Some f) now = Some (throws s f)
unless s None now = now

-- ---- types

-- a store of a reference throws where it is neither null nor fits the array
abbrev pub store_fault : World → Heap → ℕ → ℕ → Option Fault
store_fault w start r zero = None
store_fault w start r (suc v) = if types.fits w start r (suc v) then None else Some (fault.Thrown (literal_of w types.store_text))

-- a cast of this object, which isn't null, leaves it where it is of the class, and else throws
abbrev pub cast : World → State → List ℕ → ℕ → Now
cast w s class r = if types.is w s.heap0 class r then pushes s (num.Ref r) else throws s (fault.Thrown (literal_of w types.cast_text))

-- ---- ends

-- a callee returns, with or without a result, or throws
abbrev pub called : State → Outcome → Now
called s (Returned (Some n) h) = pushes (record s { heap = h }) n
called s (Returned None h) = next (record s { heap = h })
called s (Threw f h) = ended (Threw f h)

-- a return narrows its value to the type of the method's result (JVMS 6.5.ireturn)
abbrev pub given : State → Option JType → List Num → Option Now
given s (Some t) (n ∷ []) = option_map (λ v. ended (Returned (Some v) s.heap)) (as_type t n)
given s None [] = Some (ended (Returned None s.heap))
given s _ _ = None

-- ---- instructions

-- what an action does, in a state without its operands; none where it does nothing, as a call that isn't in the table
abbrev pub done : Program → World → State → Action → List Num → Option Now
done p w s act.Nop [] = Some (next s)
done p w s (act.Push n) [] = Some (pushes s n)
done p w s (act.Literal text) [] = Some (pushes s (num.Ref (literal_of w text)))
done p w s (act.Load t k) [] = option_map (pushes s) (local s k t)
done p w s (act.Store t k) (n ∷ []) = option_map next (stored s k n)
done p w s (act.Increase k by) [] = option_map (λ n. next (record s { locals = slice_set s.locals k (Some n) })) (local s k sort.Int >>= increased by)
done p w s (act.Move m) [] = option_map (λ stack. next (record s { stack = stack })) (moved sort_of m s.stack)
done p w s (act.Scalar op) operands = option_map (pushes s) (computed op operands)
done p w s (act.Divide op) operands = divided s op operands
done p w s (act.Branch t target) operands = option_map (branches s target) (tested t operands)
done p w s (act.Jump target) [] = Some (goes s target)
done p w s (act.Switch default cases) (num.Int n ∷ []) = Some (goes s (target_of default cases n))
done p w s (act.Give t) operands = given s p.desc.result operands
done p w s act.Throw (num.Ref zero ∷ []) = Some (throws s fault.Null)
done p w s act.Throw (num.Ref (suc r) ∷ []) = Some (throws s (fault.Thrown (suc r)))
done p w s (act.GetStatic t f) [] = shows s t (static_place w f)
done p w s (act.PutStatic t f) (n ∷ []) = keeps s t (static_place w f) n
done p w s (act.GetField t f) (num.Ref zero ∷ []) = Some (throws s fault.Null)
done p w s (act.GetField t f) (num.Ref (suc r) ∷ []) = shows s t (field_place w (suc r) f)
done p w s (act.PutField t f) (num.Ref zero ∷ n ∷ []) = Some (throws s fault.Null)
done p w s (act.PutField t f) (num.Ref (suc r) ∷ n ∷ []) = keeps s t (field_place w (suc r) f) n
done p w s (act.LoadElement k) (num.Ref r ∷ num.Int i ∷ []) = unless s (element_fault w r i) (shows s (element_type w k r) (Elem k r i))
done p w s (act.StoreElement k) (num.Ref r ∷ num.Int i ∷ n ∷ []) = unless s (element_fault w r i) (keeps s (element_type w k r) (Elem k r i) n)
done p w s act.StoreRef (num.Ref r ∷ num.Int i ∷ num.Ref v ∷ []) =
    unless s (element_fault w r i) (unless s (store_fault w s.heap0 r v) (keeps s (element_type w kind.Ref r) (Elem kind.Ref r i) (num.Ref v)))
done p w s (act.Cast class) (num.Ref zero ∷ []) = Some (pushes s (num.Ref zero))
done p w s (act.Cast class) (num.Ref (suc r) ∷ []) = Some (cast w s class (suc r))
done p w s (act.InstanceOf class) (num.Ref zero ∷ []) = Some (pushes s (num.Int (pos 0)))
done p w s (act.InstanceOf class) (num.Ref (suc r) ∷ []) = Some (pushes s (num.Int (if types.is w s.heap0 class (suc r) then pos 1 else pos 0)))
done p w s act.Length (num.Ref zero ∷ []) = Some (throws s fault.Null)
done p w s act.Length (num.Ref (suc r) ∷ []) = Some (pushes s (num.Int (length_of w (suc r))))
done p w s (act.Call d f) args = option_map (called s) (reply w f s.heap args)
done p w s (act.CallOn d f) (num.Ref zero ∷ args) = Some (throws s fault.Null)
done p w s (act.CallOn d f) (num.Ref (suc r) ∷ args) = option_map (called s) (reply w f s.heap (num.Ref (suc r) ∷ args))
done p w s _ _ = None

-- what an action does: it takes its operands from the stack
abbrev pub performed : Program → World → State → Action → Option Now
performed p w s a = do
  operands ← popped sort_of (takes a) s.stack
  done p w (record s { stack = operands.1 }) a operands.0

-- where it does nothing, the state stays as it is
abbrev pub perform : Program → World → State → Action → Now
perform p w s a = unwrap_or (performed p w s a) (running s)

-- ---- runs

abbrev pub perform_at : Program → World → State → Option Action → Now
perform_at p w s (Some a) = perform p w s a
perform_at p w s None = running s

abbrev pub step : Program → World → State → Now
step p w s = perform_at p w s (slice_get p.actions s.at)

abbrev pub go_on : Program → World → Now → Now
go_on p w (running s) = step p w s
go_on p w (ended o) = ended o

-- after n steps
unfoldable pub after : Program → World → State → ℕ → Now
after p w s zero = running s
after p w s (suc n) = go_on p w (after p w s n)

-- the run of a method from its start ends so, after some number of steps
abbrev pub RunEnds : Program → World → Input → Outcome → Type 0
RunEnds p w input o = (n : ℕ) × (after p w (start p input) n ≡ ended o)

-- the program of a method, which has typed frames
pub record IsProgram (file : ClassFile) (m : Method) (p : Program) : Type 0 where
  pub of_method : IsProgramOf file m p
  pub typed : HasFrames p

-- a method of a class ends so
pub record Ends (file : ClassFile) (m : Method) (w : World) (input : Input) (o : Outcome) : Type 0 where
  pub program : Program
  pub is : IsProgram file m program
  pub run : RunEnds program w input o
