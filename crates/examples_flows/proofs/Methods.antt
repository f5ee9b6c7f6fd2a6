-- Worked examples: the chains of blocks of short methods, and what their loops carry.
use Rattle.std.proofs.Common.{◌≡◌, ℕ, pos, Bool, true, false, refl, List, [], ◌∷◌, Option, Some, None, ◌∙◌, ap, map}
use Rattle.std.specs.Prelude.{◌||◌, if◌then◌else◌}
use Rattle.std.specs.List.{list_any}
use Rattle.std.proofs.lemmas.Bool.{eq-eqb}
use Rattle.pv_value.specs.declared.name.Sym.{Sym}
use Rattle.pv_value.specs.declared.number.Num.TheVariants as num
use Rattle.pv_value.specs.declared.heap.Kind.TheVariants as kind
use Rattle.pv_value.specs.declared.descriptor.JType.{JType}
use Rattle.pv_value.specs.declared.descriptor.JType.TheVariants.{I, J, A}
use Rattle.pv_value.specs.declared.operation.ScalarOp.TheVariants.{Iadd, Idiv}
use Rattle.pv_value.specs.Receivers.{with_receiver}
use Rattle.pv_types.specs.Facts.{is_sym, fits_sym, cast_text}
use Rattle.pv_frame.specs.declared.sort.Sort.{Sort}
use Rattle.pv_frame.specs.declared.sort.Sort.TheVariants.{Int, Long, Ref, Unknown}
use Rattle.pv_frame.specs.declared.action.Action.{Action}
use Rattle.pv_frame.specs.declared.action.Action.TheVariants as act
use Rattle.pv_frame.specs.declared.action.Comparison.TheVariants as comparison
use Rattle.pv_frame.specs.declared.action.Test.TheVariants as test
use Rattle.pv_frame.specs.declared.program.Program.{Program}
use Rattle.pv_frame.specs.declared.frame.Frame.{Frame}
use Rattle.pv_flow.specs.declared.block.Exit.TheVariants as exit
use Rattle.pv_flow.specs.declared.block.Block.{Block}
use Rattle.pv_loops.specs.declared.forest.Loop.{Loop}
use Rattle.pv_graph.specs.declared.node.Op.TheVariants as op
use Rattle.pv_equations.specs.Flow as flow
use Rattle.pv_equations.specs.Flow.{Part, Slot, Of, NoPart, More, Dest, To, End, Return, Throw, Chain, Leave, call_token}
use Rattle.pv_runs.specs.Held.{unit_part, clear_part, null_part, int_part, local_slot, stack_slot}
use Rattle.pv_runs.specs.Chains.{two_parts, ieq, ilt, aeq}
use Rattle.pv_runs.specs.Blocks.{block_chain}
use Rattle.pv_runs.specs.Carrying.{always_carried, writes_in, carries}
use Rattle.pv_runs.proofs.Cited.{exits_of}

-- a static method, with room enough
abbrev method : List JType → Option JType → ℕ → List Action → Program
method params result max_locals actions = record { actions = actions; instance = false; desc = record { params = params; result = result }; max_stack = 8; max_locals = max_locals }

abbrev framed : List Sort → List Sort → Option Frame
framed stack locals = Some (record { stack = stack; locals = locals })

-- where the exits of a chain go, its tests, and a slot at each exit
abbrev dests : Chain → List Dest
dests c = map (λ e. e.dest) (exits_of c)

abbrev tests : Chain → List Part
tests (Leave e) = []
tests (flow.Test t e rest) = t ∷ tests rest

abbrev at_exits : ℕ → Chain → List Part
at_exits s c = map (λ e. e.slots s) (exits_of c)

-- ---- one block

-- static int x; static int quotient(int a, int b) { x = a; return a / b; }: a division by 0 throws after the store
abbrev quotient : Sym → Program
quotient x = method (I ∷ I ∷ []) (Some I) 2 (act.Load Int 0 ∷ act.PutStatic I x ∷ act.Load Int 0 ∷ act.Load Int 1 ∷ act.Divide Idiv ∷ act.Give (Some Int) ∷ [])

abbrev ints : List Sort
ints = Int ∷ Int ∷ []

abbrev quotient_frames : List (Option Frame)
quotient_frames = framed [] ints ∷ framed (Int ∷ []) ints ∷ framed [] ints ∷ framed (Int ∷ []) ints ∷ framed (Int ∷ Int ∷ []) ints ∷ framed (Int ∷ []) ints ∷ []

abbrev quotient_blocks : List Block
quotient_blocks = record { first = 0; last = 4; exits = exit.Throw ∷ exit.To 1 ∷ [] } ∷ record { first = 5; last = 5; exits = exit.Return ∷ [] } ∷ []

abbrev divides : Sym → Chain
divides x = block_chain (quotient x) quotient_frames quotient_blocks 0

abbrev stored : Sym → Part
stored x = Of (op.PutStatic x) refl (two_parts (Slot 3) (Slot (local_slot 0)))

quotient_dests : (x : Sym) → dests (divides x) ≡ End Throw ∷ To 1 ∷ []
quotient_dests x = refl

quotient_tests : (x : Sym) → tests (divides x) ≡ ieq (Slot (local_slot 1)) (int_part (pos 0)) ∷ []
quotient_tests x = refl

-- the heap at both exits is the one with the store
quotient_heaps : (x : Sym) → at_exits 3 (divides x) ≡ stored x ∷ stored x ∷ []
quotient_heaps x = refl

-- the quotient lies on the stack where the method goes on; where it throws there is no stack
quotient_stack : (x : Sym) → at_exits (stack_slot 0) (divides x) ≡ unit_part ∷ Of (op.Scalar Idiv) refl (two_parts (Slot (local_slot 0)) (Slot (local_slot 1))) ∷ []
quotient_stack x = refl

-- the next block gives what lay on the stack
quotient_result : (x : Sym) → at_exits 2 (block_chain (quotient x) quotient_frames quotient_blocks 1) ≡ Slot (stack_slot 0) ∷ []
quotient_result x = refl

-- static void set(int[] a, int i, int v) { a[i] = v; }: where it throws the heap is the one before
abbrev set : Program
set = method (A ∷ I ∷ I ∷ []) None 3 (act.Load Ref 0 ∷ act.Load Int 1 ∷ act.Load Int 2 ∷ act.StoreElement kind.Int ∷ act.Give None ∷ [])

abbrev set_chain : Chain
set_chain = block_chain set (framed [] (Ref ∷ Int ∷ Int ∷ []) ∷ []) (record { first = 0; last = 3; exits = exit.Throw ∷ exit.Throw ∷ exit.To 1 ∷ exit.Throw ∷ [] } ∷ record { first = 4; last = 4; exits = exit.Return ∷ [] } ∷ []) 0

set_dests : dests set_chain ≡ End Throw ∷ End Throw ∷ To 1 ∷ End Throw ∷ []
set_dests = refl

set_heaps : at_exits 3 set_chain ≡ Slot 3 ∷ Slot 3 ∷ Of (op.Store kind.Int) refl (More (Slot 3) (More (Slot (local_slot 0)) (More (Slot (local_slot 1)) (More (Slot (local_slot 2)) NoPart)))) ∷ Slot 3 ∷ []
set_heaps = refl

set_faults : at_exits 1 set_chain ≡ Of op.FNull refl NoPart ∷ Of op.FIndex refl NoPart ∷ clear_part ∷ Of op.FIndex refl NoPart ∷ []
set_faults = refl

-- static void fail(Throwable t) { throw t; }: it only throws, null another fault than the object
abbrev fail_chain : Chain
fail_chain = block_chain (method (A ∷ []) None 1 (act.Load Ref 0 ∷ act.Throw ∷ [])) (framed [] (Ref ∷ []) ∷ framed (Ref ∷ []) (Ref ∷ []) ∷ []) (record { first = 0; last = 1; exits = exit.Throw ∷ exit.Throw ∷ [] } ∷ []) 0

fail_dests : dests fail_chain ≡ End Throw ∷ End Throw ∷ []
fail_dests = refl

fail_faults : at_exits 1 fail_chain ≡ Of op.FNull refl NoPart ∷ Of op.Thrown refl (More (Slot (local_slot 0)) NoPart) ∷ []
fail_faults = refl

-- a call of a method with an int: its token and its heap are at both exits, and it throws its own fault
abbrev call_chain : Sym → Chain
call_chain f = block_chain (method (I ∷ []) None 1 (act.Load Int 0 ∷ act.Call (record { params = I ∷ []; result = None }) f ∷ act.Give None ∷ [])) (framed [] (Int ∷ []) ∷ [])
    (record { first = 0; last = 1; exits = exit.To 1 ∷ exit.Throw ∷ [] } ∷ record { first = 2; last = 2; exits = exit.Return ∷ [] } ∷ []) 0

abbrev call_operands : flow.Parts
call_operands = two_parts (Slot 3) (Slot (local_slot 0))

call_dests : (f : Sym) → dests (call_chain f) ≡ To 1 ∷ End Throw ∷ []
call_dests f = refl

call_tokens : (f : Sym) → at_exits 0 (call_chain f) ≡ call_token f call_operands ∷ call_token f call_operands ∷ []
call_tokens f = refl

call_heaps : (f : Sym) → at_exits 3 (call_chain f) ≡ Of (op.CallHeap f) refl call_operands ∷ Of (op.CallHeap f) refl call_operands ∷ []
call_heaps f = refl

call_faults : (f : Sym) → at_exits 1 (call_chain f) ≡ clear_part ∷ Of (op.CallFault f) refl call_operands ∷ []
call_faults f = refl

-- a call on a receiver, of a method with an int: null throws, with the token and the heap from before the call; else it is as a call of
-- which the receiver is the first argument
abbrev call_on_chain : Sym → Chain
call_on_chain f = block_chain (method (A ∷ I ∷ []) None 2 (act.Load Ref 0 ∷ act.Load Int 1 ∷ act.CallOn (with_receiver (record { params = I ∷ []; result = None })) f ∷ act.Give None ∷ [])) (framed [] (Ref ∷ Int ∷ []) ∷ [])
    (record { first = 0; last = 2; exits = exit.Throw ∷ exit.To 1 ∷ exit.Throw ∷ [] } ∷ record { first = 3; last = 3; exits = exit.Return ∷ [] } ∷ []) 0

abbrev call_on_operands : flow.Parts
call_on_operands = More (Slot 3) (two_parts (Slot (local_slot 0)) (Slot (local_slot 1)))

call_on_tests : (f : Sym) → tests (call_on_chain f) ≡ aeq (Slot (local_slot 0)) null_part ∷ Of op.IsClear refl (More (Of (op.CallFault f) refl call_on_operands) NoPart) ∷ []
call_on_tests f = refl

call_on_dests : (f : Sym) → dests (call_on_chain f) ≡ End Throw ∷ To 1 ∷ End Throw ∷ []
call_on_dests f = refl

call_on_tokens : (f : Sym) → at_exits 0 (call_on_chain f) ≡ Slot 0 ∷ call_token f call_on_operands ∷ call_token f call_on_operands ∷ []
call_on_tokens f = refl

call_on_heaps : (f : Sym) → at_exits 3 (call_on_chain f) ≡ Slot 3 ∷ Of (op.CallHeap f) refl call_on_operands ∷ Of (op.CallHeap f) refl call_on_operands ∷ []
call_on_heaps f = refl

call_on_faults : (f : Sym) → at_exits 1 (call_on_chain f) ≡ Of op.FNull refl NoPart ∷ clear_part ∷ Of (op.CallFault f) refl call_on_operands ∷ []
call_on_faults f = refl

-- P p = (P) o: null goes on, an object of the class too, and any other throws the object of a literal
abbrev cast_chain : List ℕ → Chain
cast_chain class = block_chain (method (A ∷ []) (Some A) 1 (act.Load Ref 0 ∷ act.Cast class ∷ act.Give (Some Ref) ∷ [])) (framed [] (Ref ∷ []) ∷ [])
    (record { first = 0; last = 1; exits = exit.To 1 ∷ exit.To 1 ∷ exit.Throw ∷ [] } ∷ record { first = 2; last = 2; exits = exit.Return ∷ [] } ∷ []) 0

-- what the world tells at the heap of the input, under a symbol of its own
abbrev is_of : List ℕ → Part
is_of class = Of (op.CallRes (is_sym class)) refl (two_parts (Of op.Heap0 refl NoPart) (Slot (local_slot 0)))

cast_tests : (class : List ℕ) → tests (cast_chain class) ≡ aeq (Slot (local_slot 0)) null_part ∷ is_of class ∷ []
cast_tests class = refl

cast_dests : (class : List ℕ) → dests (cast_chain class) ≡ To 1 ∷ To 1 ∷ End Throw ∷ []
cast_dests class = refl

cast_stack : (class : List ℕ) → at_exits (stack_slot 0) (cast_chain class) ≡ Slot (local_slot 0) ∷ Slot (local_slot 0) ∷ unit_part ∷ []
cast_stack class = refl

cast_faults : (class : List ℕ) → at_exits 1 (cast_chain class) ≡ clear_part ∷ clear_part ∷ Of op.Thrown refl (More (Of (op.Literal cast_text) refl NoPart) NoPart) ∷ []
cast_faults class = refl

-- o instanceof P asks the same, and goes on from each of its exits with a number: 0 for null, 1 for an object of the class, else 0
abbrev asked_chain : List ℕ → Chain
asked_chain class = block_chain (method (A ∷ []) (Some I) 1 (act.Load Ref 0 ∷ act.InstanceOf class ∷ act.Give (Some Int) ∷ [])) (framed [] (Ref ∷ []) ∷ [])
    (record { first = 0; last = 1; exits = exit.To 1 ∷ exit.To 1 ∷ exit.To 1 ∷ [] } ∷ record { first = 2; last = 2; exits = exit.Return ∷ [] } ∷ []) 0

asked_tests : (class : List ℕ) → tests (asked_chain class) ≡ aeq (Slot (local_slot 0)) null_part ∷ is_of class ∷ []
asked_tests class = refl

asked_dests : (class : List ℕ) → dests (asked_chain class) ≡ To 1 ∷ To 1 ∷ To 1 ∷ []
asked_dests class = refl

asked_stack : (class : List ℕ) → at_exits (stack_slot 0) (asked_chain class) ≡ int_part (pos 0) ∷ int_part (pos 1) ∷ int_part (pos 0) ∷ []
asked_stack class = refl

-- static void put(Object[] a, int i, Object v) { a[i] = v; }: the heap has the store at the exits of null and of a reference that fits alone
abbrev put_chain : Chain
put_chain = block_chain (method (A ∷ I ∷ A ∷ []) None 3 (act.Load Ref 0 ∷ act.Load Int 1 ∷ act.Load Ref 2 ∷ act.StoreRef ∷ act.Give None ∷ [])) (framed [] (Ref ∷ Int ∷ Ref ∷ []) ∷ [])
    (record { first = 0; last = 3; exits = exit.Throw ∷ exit.Throw ∷ exit.Throw ∷ exit.To 1 ∷ exit.To 1 ∷ exit.Throw ∷ [] } ∷ record { first = 4; last = 4; exits = exit.Return ∷ [] } ∷ []) 0

abbrev put_heap : Part
put_heap = Of (op.Store kind.Ref) refl (More (Slot 3) (More (Slot (local_slot 0)) (two_parts (Slot (local_slot 1)) (Slot (local_slot 2)))))

put_tests : tests put_chain
    ≡ aeq (Slot (local_slot 0)) null_part ∷ ilt (Slot (local_slot 1)) (int_part (pos 0)) ∷ ieq (ilt (Slot (local_slot 1)) (Of op.Length refl (More (Slot (local_slot 0)) NoPart))) (int_part (pos 0))
    ∷ aeq (Slot (local_slot 2)) null_part ∷ Of (op.CallRes fits_sym) refl (More (Of op.Heap0 refl NoPart) (two_parts (Slot (local_slot 0)) (Slot (local_slot 2)))) ∷ []
put_tests = refl

put_dests : dests put_chain ≡ End Throw ∷ End Throw ∷ End Throw ∷ To 1 ∷ To 1 ∷ End Throw ∷ []
put_dests = refl

put_heaps : at_exits 3 put_chain ≡ Slot 3 ∷ Slot 3 ∷ Slot 3 ∷ put_heap ∷ put_heap ∷ Slot 3 ∷ []
put_heaps = refl

-- if (a > b) ..: it asks whether b is less than a, and goes to the target on yes
abbrev greater_chain : Chain
greater_chain = block_chain (method (I ∷ I ∷ []) None 2 (act.Load Int 0 ∷ act.Load Int 1 ∷ act.Branch (test.Ints comparison.Gt) 4 ∷ act.Nop ∷ act.Give None ∷ [])) (framed [] ints ∷ [])
    (record { first = 0; last = 2; exits = exit.To 2 ∷ exit.To 1 ∷ [] } ∷ record { first = 3; last = 3; exits = exit.To 2 ∷ [] } ∷ record { first = 4; last = 4; exits = exit.Return ∷ [] } ∷ []) 0

greater_tests : tests greater_chain ≡ ilt (Slot (local_slot 1)) (Slot (local_slot 0)) ∷ []
greater_tests = refl

greater_dests : dests greater_chain ≡ To 2 ∷ To 1 ∷ []
greater_dests = refl

-- an int stored into the second local of a long: the long is lost
abbrev over_long : Program
over_long = method (J ∷ []) None 2 (act.Push (num.Int (pos 7)) ∷ act.Store Int 1 ∷ act.Jump 0 ∷ [])

abbrev over_long_chain : Chain
over_long_chain = block_chain over_long (framed [] (Long ∷ Unknown ∷ []) ∷ []) (record { first = 0; last = 2; exits = exit.To 0 ∷ [] } ∷ []) 0

over_long_first : at_exits (local_slot 0) over_long_chain ≡ unit_part ∷ []
over_long_first = refl

over_long_second : at_exits (local_slot 1) over_long_chain ≡ int_part (pos 7) ∷ []
over_long_second = refl

-- ---- loops

-- while (true) {}: the block goes to itself, and leaves each slot as it is
abbrev spin : Program
spin = method [] None 0 (act.Jump 0 ∷ [])

abbrev spin_chain : Chain
spin_chain = block_chain spin (framed [] [] ∷ []) (record { first = 0; last = 0; exits = exit.To 0 ∷ [] } ∷ []) 0

spin_dests : dests spin_chain ≡ To 0 ∷ []
spin_dests = refl

spin_heap : at_exits 3 spin_chain ≡ Slot 3 ∷ []
spin_heap = refl

-- the sum of 0 to n - 1: the result and the counter are locals 1 and 2
abbrev sum : Program
sum = method (I ∷ []) (Some I) 3 (act.Push (num.Int (pos 0)) ∷ act.Store Int 1 ∷ act.Push (num.Int (pos 0)) ∷ act.Store Int 2
    ∷ act.Load Int 2 ∷ act.Load Int 0 ∷ act.Branch (test.Ints comparison.Ge) 13
    ∷ act.Load Int 1 ∷ act.Load Int 2 ∷ act.Scalar Iadd ∷ act.Store Int 1 ∷ act.Increase 2 (pos 1) ∷ act.Jump 4
    ∷ act.Load Int 1 ∷ act.Give (Some Int) ∷ [])

abbrev in_loop : List Sort → Option Frame
in_loop stack = framed stack (Int ∷ Int ∷ Int ∷ [])

abbrev sum_frames : List (Option Frame)
sum_frames = framed [] (Int ∷ Unknown ∷ Unknown ∷ []) ∷ framed (Int ∷ []) (Int ∷ Unknown ∷ Unknown ∷ []) ∷ framed [] (Int ∷ Int ∷ Unknown ∷ []) ∷ framed (Int ∷ []) (Int ∷ Int ∷ Unknown ∷ [])
    ∷ in_loop [] ∷ in_loop (Int ∷ []) ∷ in_loop (Int ∷ Int ∷ [])
    ∷ in_loop [] ∷ in_loop (Int ∷ []) ∷ in_loop (Int ∷ Int ∷ []) ∷ in_loop (Int ∷ []) ∷ in_loop [] ∷ in_loop []
    ∷ in_loop [] ∷ in_loop (Int ∷ []) ∷ []

abbrev sum_blocks : List Block
sum_blocks = record { first = 0; last = 3; exits = exit.To 1 ∷ [] } ∷ record { first = 4; last = 6; exits = exit.To 2 ∷ exit.To 3 ∷ [] }
    ∷ record { first = 7; last = 12; exits = exit.To 1 ∷ [] } ∷ record { first = 13; last = 14; exits = exit.Return ∷ [] } ∷ []

abbrev sum_chain : ℕ → Chain
sum_chain n = block_chain sum sum_frames sum_blocks n

-- at its header the loop goes on where the counter is less than n
sum_tests : tests (sum_chain 1) ≡ ilt (Slot (local_slot 2)) (Slot (local_slot 0)) ∷ []
sum_tests = refl

sum_dests : dests (sum_chain 1) ≡ To 2 ∷ To 3 ∷ []
sum_dests = refl

-- and in its body the sum grows by the counter, and the counter by 1
sum_result : at_exits (local_slot 1) (sum_chain 2) ≡ Of (op.Scalar Iadd) refl (two_parts (Slot (local_slot 1)) (Slot (local_slot 2))) ∷ []
sum_result = refl

sum_counter : at_exits (local_slot 2) (sum_chain 2) ≡ Of (op.Scalar Iadd) refl (two_parts (Slot (local_slot 2)) (int_part (pos 1))) ∷ []
sum_counter = refl

-- its loop has header 1 and the blocks 1 and 2
module _ (l : Loop) (header : l.header ≡ 1) (members : l.members.items ≡ 1 ∷ 2 ∷ []) where
  carried_by : (s : ℕ) → carries sum sum_frames sum_blocks (l ∷ []) 1 s ≡ (always_carried sum s || list_any (writes_in sum sum_frames sum_blocks s) (1 ∷ 2 ∷ []))
  carried_by s =
      ap (λ (b : Bool). always_carried sum s || list_any (writes_in sum sum_frames sum_blocks s) (if b then l.members.items else [])) (eq-eqb l.header 1 header)
      ∙ ap (λ (nodes : List ℕ). always_carried sum s || list_any (writes_in sum sum_frames sum_blocks s) nodes) members

  -- it carries the sum and the counter, but neither n nor the heap
  sum_carried : carries sum sum_frames sum_blocks (l ∷ []) 1 (local_slot 1) ≡ true
  sum_carried = carried_by (local_slot 1)

  counter_carried : carries sum sum_frames sum_blocks (l ∷ []) 1 (local_slot 2) ≡ true
  counter_carried = carried_by (local_slot 2)

  bound_kept : carries sum sum_frames sum_blocks (l ∷ []) 1 (local_slot 0) ≡ false
  bound_kept = carried_by (local_slot 0)

  heap_kept : carries sum sum_frames sum_blocks (l ∷ []) 1 3 ≡ false
  heap_kept = carried_by 3

  -- and the token, the stack and locals that the method doesn't have, as each loop
  token_carried : carries sum sum_frames sum_blocks (l ∷ []) 1 0 ≡ true
  token_carried = carried_by 0

  stack_carried : carries sum sum_frames sum_blocks (l ∷ []) 1 (stack_slot 1) ≡ true
  stack_carried = carried_by (stack_slot 1)

  other_carried : carries sum sum_frames sum_blocks (l ∷ []) 1 (local_slot 3) ≡ true
  other_carried = carried_by (local_slot 3)
