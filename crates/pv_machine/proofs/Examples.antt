-- Worked examples: each action on a stack whose lower part is any, edge cases, and runs of short methods.
use Rattle.std.proofs.Common.{Bool, ◌≡◌, ℕ, ℤ, pos, negsuc, true, false, refl, List, [], ◌∷◌, Option, Some, None, codes}
use Rattle.pv_machine.proofs.Words.{get, get-empty, int_wrap, Num, Int, Long, Ref, Heap, Loc, Static, Field, Elem, Sym, JType, Z, B, C, S, I, J, A, Descriptor, World, Outcome, Returned, Threw, read, written, static_place, empty_world, length_of, is_boolean, literal_of, home, reply, Action, Comparison, Program, State, running, ended, perform, compares}
use Rattle.pv_types.specs.Facts as types
use Rattle.pv_value.specs.declared.heap.Kind.TheVariants as kind
use Rattle.pv_value.specs.declared.outcome.Fault.TheVariants as fault
use Rattle.pv_value.specs.declared.operation.ScalarOp.TheVariants as op
use Rattle.pv_frame.specs.declared.sort.Sort.TheVariants as sort
use Rattle.pv_frame.specs.declared.action.Action.TheVariants as act
use Rattle.pv_frame.specs.declared.action.Move.TheVariants as move
use Rattle.pv_frame.specs.declared.action.Comparison.TheVariants as comparison
use Rattle.pv_frame.specs.declared.action.Test.TheVariants as test

-- ---- one action, at place 7

abbrev int : ℕ → Num
int n = Int (pos n)

-- in each of these the lower part of the stack, the heap, the program and the world are any
module _ (p : Program) (w : World) (h : Heap) (rest : List Num) where
  abbrev at : ℕ → List Num → State
  at k stack = record { at = k; stack = stack; locals = Some (int 5) ∷ Some (Long (pos 6)) ∷ None ∷ Some (Ref 9) ∷ []; heap = h; heap0 = h }

  -- on this stack the action leads to the next place, with that stack
  abbrev Leads : Action → List Num → List Num → Type 0
  Leads a before then = perform p w (at 7 before) a ≡ running (at 8 then)

  -- to another place
  abbrev GoesTo : Action → List Num → ℕ → List Num → Type 0
  GoesTo a before k then = perform p w (at 7 before) a ≡ running (at k then)

  -- it does nothing
  abbrev Stays : Action → List Num → Type 0
  Stays a stack = perform p w (at 7 stack) a ≡ running (at 7 stack)

  abbrev EndsSo : Action → List Num → Outcome → Type 0
  EndsSo a stack o = perform p w (at 7 stack) a ≡ ended o

  constants : Leads act.Nop rest rest
      × Leads (act.Push (Int (negsuc 0))) rest (Int (negsuc 0) ∷ rest)
      × Leads (act.Push (Ref 0)) rest (Ref 0 ∷ rest)
      × Leads (act.Literal (codes "x")) rest (Ref (literal_of w (codes "x")) ∷ rest)
  constants = (refl, refl, refl, refl)

  loads : Leads (act.Load sort.Int 0) rest (int 5 ∷ rest)
      × Leads (act.Load sort.Long 1) rest (Long (pos 6) ∷ rest)
      × Leads (act.Load sort.Ref 3) rest (Ref 9 ∷ rest)
  loads = (refl, refl, refl)

  -- a local of another sort, the second of a long, and one past the last
  no_loads : Stays (act.Load sort.Int 1) rest
      × Stays (act.Load sort.Int 2) rest
      × Stays (act.Load sort.Int 4) rest
  no_loads = (refl, refl, refl)

  -- a store into the second local of a long loses it
  istore : perform p w (at 7 (int 8 ∷ rest)) (act.Store sort.Int 2) ≡ running (record { at = 8; stack = rest; locals = Some (int 5) ∷ None ∷ Some (int 8) ∷ Some (Ref 9) ∷ []; heap = h; heap0 = h })
  istore = refl

  -- a long stored clears the local after it, and the long before it is lost
  lstore : perform p w (at 7 (Long (pos 8) ∷ rest)) (act.Store sort.Long 2) ≡ running (record { at = 8; stack = rest; locals = Some (int 5) ∷ None ∷ Some (Long (pos 8)) ∷ None ∷ []; heap = h; heap0 = h })
  lstore = refl

  -- a long into the last local, and a value of another sort
  no_stores : Stays (act.Store sort.Long 3) (Long (pos 8) ∷ rest)
      × Stays (act.Store sort.Ref 0) (int 8 ∷ rest)
  no_stores = (refl, refl)

  iinc : perform p w (at 7 rest) (act.Increase 0 (negsuc 299)) ≡ running (record { at = 8; stack = rest; locals = Some (Int (negsuc 294)) ∷ Some (Long (pos 6)) ∷ None ∷ Some (Ref 9) ∷ []; heap = h; heap0 = h })
  unfolding int_wrap
  iinc = refl

  moves : Leads (act.Move move.Pop) (int 1 ∷ rest) rest
      × Stays (act.Move move.Pop) (Long (pos 1) ∷ rest)
      × Leads (act.Move move.Dup2X2) (int 1 ∷ int 2 ∷ int 3 ∷ int 4 ∷ rest) (int 1 ∷ int 2 ∷ int 3 ∷ int 4 ∷ int 1 ∷ int 2 ∷ rest)
      × Leads (act.Move move.Dup2X2) (Long (pos 1) ∷ int 3 ∷ Ref 4 ∷ rest) (Long (pos 1) ∷ int 3 ∷ Ref 4 ∷ Long (pos 1) ∷ rest)
      × Leads (act.Move move.Dup2X2) (int 1 ∷ Ref 2 ∷ Long (pos 3) ∷ rest) (int 1 ∷ Ref 2 ∷ Long (pos 3) ∷ int 1 ∷ Ref 2 ∷ rest)
      × Leads (act.Move move.Dup2X2) (Long (pos 1) ∷ Long (pos 3) ∷ rest) (Long (pos 1) ∷ Long (pos 3) ∷ Long (pos 1) ∷ rest)
  moves = (refl, refl, refl, refl, refl, refl)

  -- the second operand lies on top; the count of a shift of a long is an int
  operations : Leads (act.Scalar op.Isub) (int 5 ∷ int 7 ∷ rest) (int 2 ∷ rest)
      × Stays (act.Scalar op.Iadd) (Long (pos 5) ∷ int 7 ∷ rest)
      × Leads (act.Scalar op.Lshl) (int 65 ∷ Long (pos 1) ∷ rest) (Long (pos 2) ∷ rest)
      × Leads (act.Scalar op.Ishl) (int 33 ∷ int 1 ∷ rest) (int 2 ∷ rest)
      × Leads (act.Scalar op.I2l) (Int (negsuc 0) ∷ rest) (Long (negsuc 0) ∷ rest)
      × Leads (act.Scalar op.Lcmp) (Long (pos 9) ∷ Long (pos 3) ∷ rest) (Int (negsuc 0) ∷ rest)
  unfolding int_wrap
  operations = (refl, refl, refl, refl, refl, refl)

  -- -7 / 2, and the least int by -1
  divisions : Leads (act.Divide op.Idiv) (int 2 ∷ Int (negsuc 6) ∷ rest) (Int (negsuc 2) ∷ rest)
      × Leads (act.Divide op.Idiv) (Int (negsuc 0) ∷ Int (negsuc 2147483647) ∷ rest) (Int (negsuc 2147483647) ∷ rest)
      × EndsSo (act.Divide op.Idiv) (int 0 ∷ int 1 ∷ rest) (Threw fault.Arith h)
      × EndsSo (act.Divide op.Lrem) (Long (pos 0) ∷ Long (pos 1) ∷ rest) (Threw fault.Arith h)
  unfolding int_wrap
  divisions = (refl, refl, refl, refl)

  -- value1 < value2, where value2 lies on top
  branches : GoesTo (act.Branch (test.Zero comparison.Eq) 3) (int 0 ∷ rest) 3 rest
      × Leads (act.Branch (test.Zero comparison.Eq) 3) (int 1 ∷ rest) rest
      × GoesTo (act.Branch (test.Ints comparison.Lt) 3) (int 2 ∷ Int (negsuc 4) ∷ rest) 3 rest
      × Leads (act.Branch (test.Ints comparison.Ge) 3) (int 2 ∷ Int (negsuc 4) ∷ rest) rest
      × GoesTo (act.Branch test.Same 3) (Ref 4 ∷ Ref 4 ∷ rest) 3 rest
      × Leads (act.Branch test.Other 3) (Ref 4 ∷ Ref 4 ∷ rest) rest
      × GoesTo (act.Branch test.Null 3) (Ref 0 ∷ rest) 3 rest
      × Leads (act.Branch test.NonNull 3) (Ref 0 ∷ rest) rest
      × GoesTo (act.Jump 0) rest 0 rest
  branches = (refl, refl, refl, refl, refl, refl, refl, refl, refl)

  throws : EndsSo act.Throw (Ref 0 ∷ rest) (Threw fault.Null h)
      × EndsSo act.Throw (Ref 5 ∷ rest) (Threw (fault.Thrown 5) h)
  throws = (refl, refl)

  module _ (f : Sym) where
    -- fields of null, and a field of another sort
    no_fields : EndsSo (act.GetField I f) (Ref 0 ∷ rest) (Threw fault.Null h)
        × EndsSo (act.PutField J f) (Long (pos 1) ∷ Ref 0 ∷ rest) (Threw fault.Null h)
        × Stays (act.PutStatic A f) (int 4 ∷ rest)
    no_fields = (refl, refl, refl)

    -- an action on this stack leads to the next place, with this number in the heap
    abbrev Writes : Action → List Num → Loc → ℤ → Type 0
    Writes a before l n = perform p w (at 7 before) a ≡ running (record (at 8 rest) { heap = written h l n })

    puts : Writes (act.PutField B f) (int 200 ∷ Ref 4 ∷ rest) (Field 4 (home w f)) (negsuc 55)
        × Writes (act.PutStatic A f) (Ref 4 ∷ rest) (Static (home w f)) (pos 4)
        × Writes (act.PutStatic A f) (Ref 18446744073709551615 ∷ rest) (Static (home w f)) (negsuc 0)
        × Writes (act.PutStatic Z f) (int 2 ∷ rest) (Static (home w f)) (pos 0)
        × Writes (act.PutStatic J f) (Long (negsuc 8) ∷ rest) (Static (home w f)) (negsuc 8)
    unfolding int_wrap
    puts = (refl, refl, refl, refl, refl)

    getstatic : read h (Static (home w f)) ≡ negsuc 0 → Leads (act.GetStatic C f) rest (int 65535 ∷ rest)
    unfolding int_wrap
    getstatic e = rw e refl

    getfield_long : (n : ℤ) → read h (Field 4 (home w f)) ≡ n → Leads (act.GetField J f) (Ref 4 ∷ rest) (Long n ∷ rest)
    getfield_long n e = rw e refl

    -- the heap's number is cut to the bits of an int, and then narrowed: 2^32 + 40000 as an int, a short and a byte
    getfield : read h (Field 4 (home w f)) ≡ pos 4295007296 → Leads (act.GetField I f) (Ref 4 ∷ rest) (int 40000 ∷ rest)
        × Leads (act.GetField S f) (Ref 4 ∷ rest) (Int (negsuc 25535) ∷ rest)
        × Leads (act.GetField B f) (Ref 4 ∷ rest) (int 64 ∷ rest)
    unfolding int_wrap
    getfield e = (rw e refl, rw e refl, rw e refl)

    -- -1 as a boolean; and a reference is kept and read as the number with the same 64 bits
    getfield_minus_one : read h (Field 4 (home w f)) ≡ negsuc 0 → Leads (act.GetField Z f) (Ref 4 ∷ rest) (int 1 ∷ rest)
        × Leads (act.GetField A f) (Ref 4 ∷ rest) (Ref 18446744073709551615 ∷ rest)
    unfolding int_wrap
    getfield_minus_one e = (rw e refl, rw e refl)

  -- types: null, an object of the class, and another
  null_types : Leads (act.Cast (codes "P")) (Ref 0 ∷ rest) (Ref 0 ∷ rest)
      × Leads (act.InstanceOf (codes "P")) (Ref 0 ∷ rest) (int 0 ∷ rest)
  null_types = (refl, refl)

  own_types : types.is w h (codes "P") 5 ≡ true → Leads (act.Cast (codes "P")) (Ref 5 ∷ rest) (Ref 5 ∷ rest)
      × Leads (act.InstanceOf (codes "P")) (Ref 5 ∷ rest) (int 1 ∷ rest)
  own_types e = (rw e refl, rw e refl)

  other_types : types.is w h (codes "P") 5 ≡ false → literal_of w types.cast_text ≡ 9 → EndsSo (act.Cast (codes "P")) (Ref 5 ∷ rest) (Threw (fault.Thrown 9) h)
      × Leads (act.InstanceOf (codes "P")) (Ref 5 ∷ rest) (int 0 ∷ rest)
  other_types e l = (rw (e, l) refl, rw e refl)

  -- a null array comes first, then the index, and then whether the reference fits; null fits every array
  no_elements : EndsSo act.StoreRef (Ref 3 ∷ int 1 ∷ Ref 0 ∷ rest) (Threw fault.Null h)
      × EndsSo act.StoreRef (Ref 3 ∷ Int (negsuc 0) ∷ Ref 4 ∷ rest) (Threw fault.Index h)
      × EndsSo (act.LoadElement kind.Int) (int 1 ∷ Ref 0 ∷ rest) (Threw fault.Null h)
      × EndsSo (act.LoadElement kind.Int) (Int (negsuc 0) ∷ Ref 4 ∷ rest) (Threw fault.Index h)
      × EndsSo act.Length (Ref 0 ∷ rest) (Threw fault.Null h)
  no_elements = (refl, refl, refl, refl, refl)

  module _ (e : length_of w 4 ≡ pos 6) where
    past : EndsSo (act.LoadElement kind.Int) (int 6 ∷ Ref 4 ∷ rest) (Threw fault.Index h)
        × EndsSo (act.StoreElement kind.Long) (Long (pos 1) ∷ int 6 ∷ Ref 4 ∷ rest) (Threw fault.Index h)
        × Leads act.Length (Ref 4 ∷ rest) (int 6 ∷ rest)
    past = (rw e refl, rw e refl, rw e refl)

    -- an element of a boolean array is narrowed as a boolean, of a byte array as a byte
    baload_boolean : is_boolean w 4 ≡ true → read h (Elem kind.Byte 4 (pos 5)) ≡ pos 254 → Leads (act.LoadElement kind.Byte) (int 5 ∷ Ref 4 ∷ rest) (int 0 ∷ rest)
    unfolding int_wrap
    baload_boolean b r = rw (e, b, r) refl

    baload_byte : is_boolean w 4 ≡ false → read h (Elem kind.Byte 4 (pos 5)) ≡ pos 254 → Leads (act.LoadElement kind.Byte) (int 5 ∷ Ref 4 ∷ rest) (Int (negsuc 1) ∷ rest)
    unfolding int_wrap
    baload_byte b r = rw (e, b, r) refl

    aaload : read h (Elem kind.Ref 4 (pos 5)) ≡ pos 9 → Leads (act.LoadElement kind.Ref) (int 5 ∷ Ref 4 ∷ rest) (Ref 9 ∷ rest)
    aaload r = rw (e, r) refl

    laload : read h (Elem kind.Long 4 (pos 5)) ≡ negsuc 9 → Leads (act.LoadElement kind.Long) (int 5 ∷ Ref 4 ∷ rest) (Long (negsuc 9) ∷ rest)
    laload r = rw (e, r) refl

    saload : read h (Elem kind.Short 4 (pos 5)) ≡ pos 40000 → Leads (act.LoadElement kind.Short) (int 5 ∷ Ref 4 ∷ rest) (Int (negsuc 25535) ∷ rest)
    unfolding int_wrap
    saload r = rw (e, r) refl

    bastore_boolean : is_boolean w 4 ≡ true → perform p w (at 7 (int 254 ∷ int 5 ∷ Ref 4 ∷ rest)) (act.StoreElement kind.Byte) ≡ running (record (at 8 rest) { heap = written h (Elem kind.Byte 4 (pos 5)) (pos 0) })
    bastore_boolean b = rw (e, b) refl

    bastore_byte : is_boolean w 4 ≡ false → perform p w (at 7 (int 254 ∷ int 5 ∷ Ref 4 ∷ rest)) (act.StoreElement kind.Byte) ≡ running (record (at 8 rest) { heap = written h (Elem kind.Byte 4 (pos 5)) (negsuc 1) })
    unfolding int_wrap
    bastore_byte b = rw (e, b) refl

    castore : perform p w (at 7 (Int (negsuc 0) ∷ int 5 ∷ Ref 4 ∷ rest)) (act.StoreElement kind.Char) ≡ running (record (at 8 rest) { heap = written h (Elem kind.Char 4 (pos 5)) (pos 65535) })
    castore = rw e refl

  -- calls: the arguments are in order, the last lies on top
  abbrev taking : Option JType → Descriptor
  taking result = record { params = I ∷ J ∷ []; result = result }

  abbrev args : List Num
  args = int 1 ∷ Long (pos 2) ∷ []

  -- a call on a receiver, which is the first argument
  abbrev taking_receiver : Option JType → Descriptor
  taking_receiver result = record { params = A ∷ I ∷ []; result = result }

  module _ (f : Sym) where
    returned : (h' : Heap) → reply w f h args ≡ Some (Returned (Some (int 300)) h') → perform p w (at 7 (Long (pos 2) ∷ int 1 ∷ rest)) (act.Call (taking (Some B)) f) ≡ running (record (at 8 (int 300 ∷ rest)) { heap = h' })
    returned h' e = rw e refl

    returned_void : (h' : Heap) → reply w f h args ≡ Some (Returned None h') → perform p w (at 7 (Long (pos 2) ∷ int 1 ∷ rest)) (act.Call (taking None) f) ≡ running (record (at 8 rest) { heap = h' })
    returned_void h' e = rw e refl

    threw : (h' : Heap) → reply w f h args ≡ Some (Threw (fault.Thrown 3) h') → EndsSo (act.Call (taking None) f) (Long (pos 2) ∷ int 1 ∷ rest) (Threw (fault.Thrown 3) h')
    threw h' e = rw e refl

    -- a call that isn't in the table leaves the state as it was
    waits : reply w f h args ≡ None → Stays (act.Call (taking None) f) (Long (pos 2) ∷ int 1 ∷ rest)
    waits e = rw e refl

    returned_on : (h' : Heap) → reply w f h (Ref 1 ∷ int 2 ∷ []) ≡ Some (Returned (Some (int 300)) h') → perform p w (at 7 (int 2 ∷ Ref 1 ∷ rest)) (act.CallOn (taking_receiver (Some I)) f) ≡ running (record (at 8 (int 300 ∷ rest)) { heap = h' })
    returned_on h' e = rw e refl

    threw_on : (h' : Heap) → reply w f h (Ref 1 ∷ int 2 ∷ []) ≡ Some (Threw (fault.Thrown 3) h') → EndsSo (act.CallOn (taking_receiver None) f) (int 2 ∷ Ref 1 ∷ rest) (Threw (fault.Thrown 3) h')
    threw_on h' e = rw e refl

    -- on null it throws, and the heap stays
    null_receiver : EndsSo (act.CallOn (taking_receiver (Some I)) f) (int 2 ∷ Ref 0 ∷ rest) (Threw fault.Null h)
    null_receiver = refl

    waits_on : reply w f h (Ref 1 ∷ int 2 ∷ []) ≡ None → Stays (act.CallOn (taking_receiver None) f) (int 2 ∷ Ref 1 ∷ rest)
    waits_on e = rw e refl

-- ---- comparisons

-- an int below another, the same, and above it
abbrev OnOrders : Comparison → Bool → Bool → Bool → Type 0
OnOrders c lower same higher = (compares c (negsuc 0) (pos 3) ≡ lower) × (compares c (pos 3) (pos 3) ≡ same) × (compares c (pos 3) (negsuc 0) ≡ higher)

comparisons : OnOrders comparison.Eq false true false
    × OnOrders comparison.Ne true false true
    × OnOrders comparison.Lt true false false
    × OnOrders comparison.Ge false true true
    × OnOrders comparison.Gt false false true
    × OnOrders comparison.Le true true false
comparisons = ((refl, refl, refl), (refl, refl, refl), (refl, refl, refl), (refl, refl, refl), (refl, refl, refl), (refl, refl, refl))

-- ---- what a world says

-- the field that a symbol stands for: of the home class that is known, or of the class that the symbol names
home_known : (w : World) (f : Sym) (c : List ℕ) → get w.homes f ≡ Some c → home w f ≡ record f { class = c }
home_known w f c e = rw e refl

home_unknown : (f : Sym) → home empty_world f ≡ f
home_unknown f = let none : get empty_world.homes f ≡ None = get-empty _ f in rw none refl

-- so two symbols of one home stand for one place, and of different names never
one_place : (w : World) (f g : Sym) (c : List ℕ) → get w.homes f ≡ Some c → get w.homes g ≡ Some c → f.name ≡ g.name → f.desc ≡ g.desc → static_place w f ≡ static_place w g
one_place w f g c d e n t = rw (d, e, n, t) refl

length_unknown : (r : ℕ) → length_of empty_world r ≡ pos 0
length_unknown r = let none : get empty_world.lengths r ≡ None = get-empty _ r in rw none refl

literal_known : (w : World) (text : List ℕ) (r : ℕ) → get w.literals text ≡ Some r → literal_of w text ≡ r
literal_known w text r e = rw e refl
