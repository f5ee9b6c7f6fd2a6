-- Worked examples: runs of short methods, and their frames.
use Rattle.std.proofs.Common.{◌≡◌, ℕ, ℤ, pos, negsuc, zero, suc, ◌≤◌, false, refl, List, [], ◌∷◌, Option, Some, None, ◌∙◌, ap, sym, subst, inl, inr, lit≤, arith, ◌⊎◌, codes, unwrap_or, sum_by}
use Rattle.pv_machine.proofs.Words.{empty, insert, get-insert, get-empty, nat_cmp_total, int_wrap, Num, Int, Long, Ref, Heap, Static, Field, Sym, JType, Z, B, C, S, I, J, A, World, Input, Outcome, Returned, Threw, written, empty_world, length_of, home, reply, read_same, Sort, Action, popped, width, Program, IsAt, cases_from, Frame, same, local_holds, pushed, Leaves, Flows, IsFrameAt, GoesOn, IsTyped, Agrees, HasFrames, frame_after, some_of, no_some, if_some, State, running, ended, start, go_on, after}
use Rattle.pv_value.specs.declared.outcome.Fault.TheVariants as fault
use Rattle.pv_value.specs.declared.operation.ScalarOp.TheVariants as op
use Rattle.pv_frame.specs.declared.sort.Sort.TheVariants as sort
use Rattle.pv_frame.specs.declared.action.Action.TheVariants as act
use Rattle.pv_frame.specs.declared.action.Comparison.TheVariants as comparison
use Rattle.pv_frame.specs.declared.action.Test.TheVariants as test

abbrev int : ℕ → Num
int n = Int (pos n)

-- a static method, with room enough
abbrev method : List JType → Option JType → ℕ → List Action → Program
method params result max_locals actions = record { actions = actions; instance = false; desc = record { params = params; result = result }; max_stack = 8; max_locals = max_locals }

abbrev given : List Num → Heap → Input
given args h = record { this = 1; args = args; heap = h }

-- the method ends so, and not before
record EndsAfter (p : Program) (w : World) (input : Input) (n : ℕ) (o : Outcome) : Type 0 where
  before : (s : State) × (after p w (start p input) n ≡ running s)
  then : after p w (start p input) (suc n) ≡ ended o

-- ---- constants and operations

-- iconst_1, ireturn: it runs on after one step, and has ended after two
one_ends : (w : World) → EndsAfter (method [] (Some I) 0 (act.Push (int 1) ∷ act.Give (Some sort.Int) ∷ [])) w (given [] empty) 1 (Returned (Some (int 1)) empty)
unfolding after
one_ends w = record { before = (_, refl); then = refl }

-- lload_0, lreturn
long_ends : (w : World) → EndsAfter (method (J ∷ []) (Some J) 2 (act.Load sort.Long 0 ∷ act.Give (Some sort.Long) ∷ [])) w (given (Long (pos 5) ∷ []) empty) 1 (Returned (Some (Long (pos 5))) empty)
unfolding after
long_ends w = record { before = (_, refl); then = refl }

-- the least int divided by -1
least_ends : (w : World) → EndsAfter (method [] (Some I) 0 (act.Push (Int (negsuc 2147483647)) ∷ act.Push (Int (negsuc 0)) ∷ act.Divide op.Idiv ∷ act.Give (Some sort.Int) ∷ [])) w (given [] empty) 3 (Returned (Some (Int (negsuc 2147483647))) empty)
unfolding after int_wrap
least_ends w = record { before = (_, refl); then = refl }

-- ireturn narrows to the type of the result: 200 as a byte, 2 as a boolean, -1 as a char, 40000 as a short
abbrev returns : JType → ℤ → Program
returns t n = method [] (Some t) 0 (act.Push (Int n) ∷ act.Give (Some sort.Int) ∷ [])

narrowed : (w : World) → EndsAfter (returns B (pos 200)) w (given [] empty) 1 (Returned (Some (Int (negsuc 55))) empty)
    × EndsAfter (returns Z (pos 2)) w (given [] empty) 1 (Returned (Some (int 0)) empty)
    × EndsAfter (returns C (negsuc 0)) w (given [] empty) 1 (Returned (Some (int 65535)) empty)
    × EndsAfter (returns S (pos 40000)) w (given [] empty) 1 (Returned (Some (Int (negsuc 25535))) empty)
unfolding after int_wrap
narrowed w = (record { before = (_, refl); then = refl }, record { before = (_, refl); then = refl }, record { before = (_, refl); then = refl }, record { before = (_, refl); then = refl })

-- ---- loops and switches

-- the sum of 0 to n - 1: s and i are locals 1 and 2
abbrev sum : Program
sum = method (I ∷ []) (Some I) 3 (act.Push (int 0) ∷ act.Store sort.Int 1 ∷ act.Push (int 0) ∷ act.Store sort.Int 2
    ∷ act.Load sort.Int 2 ∷ act.Load sort.Int 0 ∷ act.Branch (test.Ints comparison.Ge) 13
    ∷ act.Load sort.Int 1 ∷ act.Load sort.Int 2 ∷ act.Scalar op.Iadd ∷ act.Store sort.Int 1 ∷ act.Increase 2 (pos 1) ∷ act.Jump 4
    ∷ act.Load sort.Int 1 ∷ act.Give (Some sort.Int) ∷ [])

sum_ends : (w : World) → EndsAfter sum w (given (int 3 ∷ []) empty) 35 (Returned (Some (int 3)) empty)
unfolding after int_wrap
sum_ends w = record { before = (_, refl); then = refl }

-- goto to itself never ends
abbrev spin : Program
spin = method [] None 0 (act.Jump 0 ∷ [])

spins : (w : World) (h : Heap) (n : ℕ) → after spin w (start spin (given [] h)) n ≡ running (start spin (given [] h))
unfolding after
spins w h zero = refl
spins w h (suc n) = ap (go_on spin w) (spins w h n)

-- a tableswitch from -1 to 1 with default 9, and a lookupswitch
abbrev table : Action
table = act.Switch 9 (cases_from (negsuc 0) (4 ∷ 5 ∷ 6 ∷ []))

abbrev lookup : Action
lookup = act.Switch 9 (record { key = negsuc 7; target = 4 } ∷ record { key = pos 100; target = 5 } ∷ [])

-- it leads to this place
abbrev Switches : World → Action → ℤ → ℕ → Type 0
Switches w a n k = after (method [] None 0 (act.Push (Int n) ∷ a ∷ [])) w (start (method [] None 0 (act.Push (Int n) ∷ a ∷ [])) (given [] empty)) 2 ≡ running (record { at = k; stack = []; locals = []; heap = empty; heap0 = empty })

switches : (w : World) → Switches w table (negsuc 0) 4
    × Switches w table (pos 1) 6
    × Switches w table (pos 2) 9
    × Switches w table (negsuc 1) 9
    × Switches w lookup (pos 100) 5
    × Switches w lookup (pos 0) 9
unfolding after
switches w = (refl, refl, refl, refl, refl, refl)

-- ---- fields and arrays

-- o.f = 1, return o.f
field_ends : (w : World) (f : Sym) (h : Heap) → EndsAfter (method (A ∷ []) (Some I) 1 (act.Load sort.Ref 0 ∷ act.Push (int 1) ∷ act.PutField I f ∷ act.Load sort.Ref 0 ∷ act.GetField I f ∷ act.Give (Some sort.Int) ∷ [])) w
    (given (Ref 5 ∷ []) h) 5 (Returned (Some (int 1)) (written h (Field 5 (home w f)) (pos 1)))
unfolding after int_wrap
field_ends w f h = let again = read_same h (Field 5 (home w f)) (pos 1) in record { before = (_, refl); then = rw again refl }

-- a byte field: 200 is put, and -56 is read
byte_field_ends : (w : World) (f : Sym) (h : Heap) → EndsAfter (method [] (Some I) 0 (act.Push (int 200) ∷ act.PutStatic B f ∷ act.GetStatic B f ∷ act.Give (Some sort.Int) ∷ [])) w
    (given [] h) 3 (Returned (Some (Int (negsuc 55))) (written h (Static (home w f)) (negsuc 55)))
unfolding after int_wrap
byte_field_ends w f h = let again = read_same h (Static (home w f)) (negsuc 55) in record { before = (_, refl); then = rw again refl }

-- the heap of a throw is that before the instruction: s = 1, return a / b with b = 0
heap_of_throw : (w : World) (f : Sym) (h : Heap) →
    EndsAfter (method (I ∷ I ∷ []) (Some I) 2 (act.Push (int 1) ∷ act.PutStatic I f ∷ act.Load sort.Int 0 ∷ act.Load sort.Int 1 ∷ act.Divide op.Idiv ∷ act.Give (Some sort.Int) ∷ [])) w
    (given (int 3 ∷ int 0 ∷ []) h) 4 (Threw fault.Arith (written h (Static (home w f)) (pos 1)))
unfolding after
heap_of_throw w f h = record { before = (_, refl); then = refl }

-- the same with the division first
heap_before : (w : World) (f : Sym) (h : Heap) →
    EndsAfter (method (I ∷ I ∷ []) (Some I) 3 (act.Load sort.Int 0 ∷ act.Load sort.Int 1 ∷ act.Divide op.Idiv ∷ act.Store sort.Int 2 ∷ act.Push (int 1) ∷ act.PutStatic I f ∷ act.Load sort.Int 2 ∷ act.Give (Some sort.Int) ∷ [])) w
    (given (int 3 ∷ int 0 ∷ []) h) 2 (Threw fault.Arith h)
unfolding after
heap_before w f h = record { before = (_, refl); then = refl }

-- aload_0, arraylength, ireturn
abbrev length_method : Program
length_method = method (A ∷ []) (Some I) 1 (act.Load sort.Ref 0 ∷ act.Length ∷ act.Give (Some sort.Int) ∷ [])

length_of_null : (w : World) → EndsAfter length_method w (given (Ref 0 ∷ []) empty) 1 (Threw fault.Null empty)
unfolding after
length_of_null w = record { before = (_, refl); then = refl }

-- a world in which 4 has length 6
abbrev six : World
six = record empty_world { lengths = insert empty 4 (pos 6) }

six_is : length_of six 4 ≡ pos 6
six_is = ap (λ (o : Option ℤ). unwrap_or o (pos 0)) (get-insert nat_cmp_total empty 4 (pos 6) 4)

length_of_six : EndsAfter length_method six (given (Ref 4 ∷ []) empty) 2 (Returned (Some (int 6)) empty)
unfolding after
length_of_six = record { before = (_, refl); then = rw six_is refl }

-- ---- calls

-- a static call of a method without parameters and result, and a return; in a world without calls it never ends
abbrev callee : Sym
callee = record { class = codes "P"; name = codes "k"; desc = codes "()V" }

abbrev calls : Program
calls = method [] None 0 (act.Call (record { params = []; result = None }) callee ∷ act.Give None ∷ [])

unanswered : (h : Heap) → reply empty_world callee h [] ≡ None
unanswered h = get-empty _ _

call_never_ends : (h : Heap) (n : ℕ) → after calls empty_world (start calls (given [] h)) n ≡ running (start calls (given [] h))
unfolding after
call_never_ends h zero = refl
call_never_ends h (suc n) = ap (go_on calls empty_world) (call_never_ends h n) ∙ rw (unanswered h) refl

-- where the callee returns with another heap, so does the method
call_ends : (w : World) (h h' : Heap) → reply w callee h [] ≡ Some (Returned None h') → EndsAfter calls w (given [] h) 1 (Returned None h')
unfolding after
call_ends w h h' e = record { before = (record { at = 1; stack = []; locals = []; heap = h'; heap0 = h }, rw e refl); then = rw e refl }

-- ---- frames

-- lload_0 and a return of an int or a long
abbrev loading : Option JType → Sort → ℕ → Program
loading result s max_stack = record { actions = act.Load sort.Long 0 ∷ act.Give (Some s) ∷ []; instance = false; desc = record { params = J ∷ []; result = result }; max_stack = max_stack; max_locals = 2 }

abbrev frame : List Sort → Frame
frame stack = record { stack = stack; locals = sort.Long ∷ sort.Unknown ∷ [] }

abbrev two_frames : List (Option Frame)
two_frames = Some (frame []) ∷ Some (frame (sort.Long ∷ [])) ∷ []

-- as a long it has typed frames, and before the return the stack is one long
long_typed : HasFrames (loading (Some J) sort.Long 2)
long_typed = (
  two_frames,
  record {
    passed = lit≤ tt;
    entry = record { target = frame []; there = refl; flows = record { stack = refl; locals = (inl refl, (inl refl, tt)) } };
    each = each;
  },
)
  where
    stays : (stack : List Sort) → Flows (frame stack) (frame stack)
    stays stack = record { stack = refl; locals = (inl refl, (inl refl, tt)) }

    each : (k : ℕ) (f : Frame) → IsFrameAt two_frames k f → IsTyped (loading (Some J) sort.Long 2) two_frames k f
    each zero f e = subst (IsTyped (loading (Some J) sort.Long 2) two_frames 0) (some_of _ _ (some_of _ _ e))
        (record { action = act.Load sort.Long 0; at = refl; room = lit≤ tt; goes = inr (record { after = frame (sort.Long ∷ []); is = refl; edges = (record { target = frame (sort.Long ∷ []); there = refl; flows = stays (sort.Long ∷ []) }, tt) }) })
    each (suc zero) f e = subst (IsTyped (loading (Some J) sort.Long 2) two_frames 1) (some_of _ _ (some_of _ _ e))
        (record { action = act.Give (Some sort.Long); at = refl; room = lit≤ tt; goes = inl (refl, (_, refl)) })
    each (suc (suc k)) f e = no_some _ e

-- what the instruction at a place does there
typed_goes : (p : Program) (frames : List (Option Frame)) (k : ℕ) (f : Frame) (a : Action) → IsAt p k a → IsTyped p frames k f → Leaves p a f ⊎ GoesOn frames k a f
typed_goes p frames k f a at typed = subst (λ (x : Action). Leaves p x f ⊎ GoesOn frames k x f) (some_of _ _ (sym typed.at ∙ at)) typed.goes

-- whatever frames agree with it, the stack before the return is one long
record BeforeReturn (frames : List (Option Frame)) : Type 0 where
  target : Frame
  there : IsFrameAt frames 1 target
  stack : target.stack ≡ sort.Long ∷ []

before_return : (result : Option JType) (s : Sort) (max_stack : ℕ) (frames : List (Option Frame)) → Agrees (loading result s max_stack) frames → BeforeReturn frames
before_return result s max_stack frames agrees =
    let entry = agrees.entry in
    elim (typed_goes (loading result s max_stack) frames 0 entry.target (act.Load sort.Long 0) refl (agrees.each 0 entry.target entry.there)) [
      | inl leaves ↦ absurd leaves.0
      | inr on ↦
          let found = if_some (local_holds entry.target 0 sort.Long) (pushed (sort.Long ∷ []) entry.target) on.after on.is in
          let edge = on.edges.0 in
          let stack : edge.target.stack ≡ sort.Long ∷ [] = edge.flows.stack ∙ sym (ap (λ (f : Frame). f.stack) found.1) ∙ ap (λ (l : List Sort). sort.Long ∷ l) entry.flows.stack in
          record { target = edge.target; there = edge.there; stack = stack }
    ]

-- so with a return of an int it has none
int_untyped : HasFrames (loading (Some I) sort.Int 2) → ⊥
int_untyped (frames, agrees) =
    let b = before_return (Some I) sort.Int 2 frames agrees in
    elim (typed_goes (loading (Some I) sort.Int 2) frames 1 b.target (act.Give (Some sort.Int)) refl (agrees.each 1 b.target b.there)) [
      | inl leaves ↦ no_some leaves.1.0 (subst (λ (l : List Sort). popped same (sort.Int ∷ []) l ≡ Some leaves.1.0) b.stack leaves.1.1)
      | inr on ↦ no_some on.after (subst (λ (l : List Sort). frame_after (act.Give (Some sort.Int)) (record { stack = l; locals = b.target.locals }) ≡ Some on.after) b.stack on.is)
    ]

-- and with room for one word alone on the stack
narrow_untyped : HasFrames (loading (Some J) sort.Long 1) → ⊥
narrow_untyped (frames, agrees) =
    let b = before_return (Some J) sort.Long 1 frames agrees in
    let room = (agrees.each 1 b.target b.there).room in
    let two : sum_by width (sort.Long ∷ []) ≤ 1 = subst (λ (l : List Sort). sum_by width l ≤ 1) b.stack room in
    omega arith
