-- The tests and exits of a block, by its last instruction, which stands at place k; the next one stands at k + 1. Exits go to the places of
-- instructions, in whose place `numbered` puts the numbers of the blocks that begin there.
use Rattle.std.specs.Prelude.{ℕ, suc, pos, Bool, true, false, if◌then◌else◌, List, [], ◌∷◌, Option, Some, None, option_map, refl}
use Rattle.pv_pool.specs.Readers.{◌>>=◌}
use Rattle.pv_value.specs.declared.name.Sym.{Sym}
use Rattle.pv_value.specs.declared.descriptor.JType.{JType}
use Rattle.pv_value.specs.declared.descriptor.JType.TheVariants.{Z, B, C, S}
use Rattle.pv_value.specs.declared.operation.ScalarOp.TheVariants.{Iand, Ieq, Ilt, I2b, I2c, I2s, Leq}
use Rattle.pv_value.specs.Operations as operation
use Rattle.pv_insn.specs.declared.insn.Case.{Case}
use Rattle.pv_frame.specs.declared.action.Comparison.{Comparison}
use Rattle.pv_frame.specs.declared.action.Comparison.TheVariants as comparison
use Rattle.pv_frame.specs.declared.action.Test.{Test}
use Rattle.pv_frame.specs.declared.action.Test.TheVariants as test
use Rattle.pv_frame.specs.declared.action.Action.{Action}
use Rattle.pv_frame.specs.declared.action.Action.TheVariants as act
use Rattle.pv_frame.specs.declared.sort.Sort.TheVariants as sort
use Rattle.pv_types.specs.Facts as types
use Rattle.pv_frame.specs.Stacks.{popped}
use Rattle.pv_frame.specs.Effects.{takes}
use Rattle.pv_graph.specs.declared.node.Op.TheVariants as op
use Rattle.pv_equations.specs.Flow as flow
use Rattle.pv_equations.specs.Flow.{Part, Parts, Slot, Of, NoPart, More, Kind, Return, Throw, Dest, To, End, Exit, Chain, Leave}
use Rattle.pv_runs.specs.Held.{slots, Cell, Held, cell_sort, unit_part, clear_part, null_part, int_part, slots_of, push, acted_on, call_parts, after_call}

-- ---- exits

abbrev pub to : ℕ → Held → Exit
to m h = record { dest = To m; slots = slots_of h }

abbrev pub end_slots : Part → Part → Part → Part → ℕ → Part
end_slots token fault result heap = slots token fault result heap (λ n. unit_part)

abbrev pub throw : Part → Held → Exit
throw fault h = record { dest = End Throw; slots = end_slots h.token fault unit_part h.heap }

abbrev pub give : Part → Held → Exit
give result h = record { dest = End Return; slots = end_slots h.token clear_part result h.heap }

-- ---- tests

abbrev pub two_parts : Part → Part → Parts
two_parts a b = More a (More b NoPart)

abbrev pub ieq : Part → Part → Part
ieq a b = Of (op.Scalar Ieq) refl (two_parts a b)

abbrev pub ilt : Part → Part → Part
ilt a b = Of (op.Scalar Ilt) refl (two_parts a b)

abbrev pub aeq : Part → Part → Part
aeq a b = Of op.Aeq refl (two_parts a b)

-- yes where the first test of the pair is true, and no where it isn't; the second says whether a branch is taken on yes
abbrev pub compared : Comparison → Part → Part → Part × Bool
compared comparison.Eq a b = (ieq a b, true)
compared comparison.Ne a b = (ieq a b, false)
compared comparison.Lt a b = (ilt a b, true)
compared comparison.Ge a b = (ilt a b, false)
compared comparison.Gt a b = (ilt b a, true)
compared comparison.Le a b = (ilt b a, false)

abbrev pub test_part : Test → List Cell → Option (Part × Bool)
test_part (test.Zero c) (x ∷ []) = Some (compared c x.part (int_part (pos 0)))
test_part (test.Ints c) (x ∷ y ∷ []) = Some (compared c x.part y.part)
test_part test.Same (x ∷ y ∷ []) = Some (aeq x.part y.part, true)
test_part test.Other (x ∷ y ∷ []) = Some (aeq x.part y.part, false)
test_part test.Null (x ∷ []) = Some (aeq x.part null_part, true)
test_part test.NonNull (x ∷ []) = Some (aeq x.part null_part, false)
test_part t cells = None

abbrev pub branch : Part × Bool → Exit → Exit → Chain
branch t target next = if t.1 then flow.Test t.0 target (Leave next) else flow.Test t.0 next (Leave target)

abbrev pub switch : Part → ℕ → List Case → Held → Chain
switch x default [] h = Leave (to default h)
switch x default (c ∷ cases) h = flow.Test (ieq x (int_part c.key)) (to c.target h) (switch x default cases h)

-- a divisor is compared with 0 as an int or as a long
abbrev pub is_zero : operation.Word → Part → Part
is_zero operation.int y = ieq y (int_part (pos 0))
is_zero operation.long y = Of (op.Scalar Leq) refl (two_parts y (Of (op.Long (pos 0)) refl NoPart))

-- a value as one of the type of a method's result
abbrev pub narrowed_part : JType → Part → Part
narrowed_part Z x = Of (op.Scalar Iand) refl (two_parts x (int_part (pos 1)))
narrowed_part B x = Of (op.Scalar I2b) refl (More x NoPart)
narrowed_part C x = Of (op.Scalar I2c) refl (More x NoPart)
narrowed_part S x = Of (op.Scalar I2s) refl (More x NoPart)
narrowed_part t x = x

abbrev pub given_chain : Option JType → Held → List Cell → Option Chain
given_chain (Some t) h (c ∷ []) = Some (Leave (give (narrowed_part t c.part) h))
given_chain None h [] = Some (Leave (give unit_part h))
given_chain t h cells = None

abbrev pub fault_part : Sym → Held → List Cell → Part
fault_part f h cells = Of (op.CallFault f) refl (call_parts h cells)

-- a callee's fault is thrown after the call, and else it goes on
abbrev pub unless_thrown : Sym → Held → List Cell → Exit → Chain
unless_thrown f h cells next = flow.Test (Of op.IsClear refl (More (fault_part f h cells) NoPart)) next (Leave (throw (fault_part f h cells) (after_call h f cells)))

-- null throws, and else it goes on
abbrev pub unless_null : Part → Held → Exit → Chain
unless_null o h next = flow.Test (aeq o null_part) (throw (Of op.FNull refl NoPart) h) (Leave next)

-- null throws, and an index out of range
abbrev pub within : Part → Part → Held → Exit → Chain
within a i h next =
    flow.Test (aeq a null_part) (throw (Of op.FNull refl NoPart) h)
    (flow.Test (ilt i (int_part (pos 0))) (throw (Of op.FIndex refl NoPart) h)
    (flow.Test (ilt i (Of op.Length refl (More a NoPart))) next (Leave (throw (Of op.FIndex refl NoPart) h))))

-- ---- types

-- what the world tells of types stands at the heap with which the method starts
abbrev pub start_part : Part
start_part = Of op.Heap0 refl NoPart

-- whether an object is of a class, and whether a reference fits an array
abbrev pub is_part : List ℕ → Part → Part
is_part class o = Of (op.CallRes (types.is_sym class)) refl (two_parts start_part o)

abbrev pub fits_part : Part → Part → Part
fits_part a v = Of (op.CallRes types.fits_sym) refl (More start_part (two_parts a v))

-- the object of a literal is thrown
abbrev pub thrown_literal : List ℕ → Part
thrown_literal text = Of op.Thrown refl (More (Of (op.Literal text) refl NoPart) NoPart)

-- the exit to the same place with something else held there
abbrev pub with_held : Held → Exit → Exit
with_held h e = record e { slots = slots_of h }

-- null goes on, and an object of the class; else it throws
abbrev pub unless_other : List ℕ → Part → Held → Exit → Chain
unless_other class o h next = flow.Test (aeq o null_part) next (flow.Test (is_part class o) next (Leave (throw (thrown_literal types.cast_text) h)))

-- 0 for null, 1 for an object of the class, and else 0
abbrev pub asks_class : List ℕ → Part → Held → Exit → Chain
asks_class class o h next = flow.Test (aeq o null_part) next (flow.Test (is_part class o) (with_held (push h sort.Int (int_part (pos 1))) next) (Leave next))

-- null goes on, and a reference that fits; else it throws
abbrev pub unless_unfit : Part → Part → Held → Exit → Chain
unless_unfit a v h next = flow.Test (aeq v null_part) next (flow.Test (fits_part a v) next (Leave (throw (thrown_literal types.store_text) h)))

-- a null array throws, an index out of range, and a reference that doesn't fit
abbrev pub stores_ref : Part → Part → Part → Held → Exit → Chain
stores_ref a i v h next =
    flow.Test (aeq a null_part) (throw (Of op.FNull refl NoPart) h)
    (flow.Test (ilt i (int_part (pos 0))) (throw (Of op.FIndex refl NoPart) h)
    (flow.Test (ieq (ilt i (Of op.Length refl (More a NoPart))) (int_part (pos 0))) (throw (Of op.FIndex refl NoPart) h) (unless_unfit a v h next)))

-- ---- the chain of an action

-- the chain of an action at place k with these operands: h is what is held without them, and next the exit to the next place
abbrev pub chain_with : Option JType → Action → Held → List Cell → Exit → Option Chain
chain_with result (act.Branch t target) h cells next = option_map (λ x. branch x (to target h) next) (test_part t cells)
chain_with result (act.Jump target) h cells next = Some (Leave (to target h))
chain_with result (act.Switch default cases) h (x ∷ []) next = Some (switch x.part default cases h)
chain_with result (act.Divide o) h (x ∷ y ∷ []) next = Some (flow.Test (is_zero (operation.gives o) y.part) (throw (Of op.FArith refl NoPart) h) (Leave next))
chain_with result (act.GetField t f) h (o ∷ []) next = Some (unless_null o.part h next)
chain_with result (act.PutField t f) h (o ∷ x ∷ []) next = Some (unless_null o.part h next)
chain_with result act.Length h (a ∷ []) next = Some (unless_null a.part h next)
chain_with result (act.LoadElement k) h (a ∷ i ∷ []) next = Some (within a.part i.part h next)
chain_with result (act.StoreElement k) h (a ∷ i ∷ x ∷ []) next = Some (within a.part i.part h next)
chain_with result act.StoreRef h (a ∷ i ∷ v ∷ []) next = Some (stores_ref a.part i.part v.part h next)
chain_with result (act.Cast class) h (o ∷ []) next = Some (unless_other class o.part h next)
chain_with result (act.InstanceOf class) h (o ∷ []) next = Some (asks_class class o.part h next)
chain_with result (act.Call d f) h cells next = Some (unless_thrown f h cells next)
chain_with result (act.CallOn d f) h (o ∷ cells) next = Some (flow.Test (aeq o.part null_part) (throw (Of op.FNull refl NoPart) h) (unless_thrown f h (o ∷ cells) next))
chain_with result act.Nop h cells next = Some (Leave next)
chain_with result (act.Push n) h cells next = Some (Leave next)
chain_with result (act.Literal text) h cells next = Some (Leave next)
chain_with result (act.Load s k) h cells next = Some (Leave next)
chain_with result (act.Store s k) h cells next = Some (Leave next)
chain_with result (act.Increase k by) h cells next = Some (Leave next)
chain_with result (act.Move m) h cells next = Some (Leave next)
chain_with result (act.Scalar o) h cells next = Some (Leave next)
chain_with result (act.GetStatic t f) h cells next = Some (Leave next)
chain_with result (act.PutStatic t f) h cells next = Some (Leave next)
chain_with result a h cells next = None

-- the chain of an action that ends the method
abbrev pub last_chain : Option JType → Action → Held → List Cell → Option Chain
last_chain result (act.Give s) h cells = given_chain result h cells
last_chain result act.Throw h (x ∷ []) = Some (flow.Test (aeq x.part null_part) (throw (Of op.FNull refl NoPart) h) (Leave (throw (Of op.Thrown refl (More x.part NoPart)) h)))
last_chain result a h cells = acted_on a h cells >>= λ after. None

abbrev pub ends_method : Action → Bool
ends_method (act.Give s) = true
ends_method act.Throw = true
ends_method a = false

-- the chain of a block whose last action, at place k, is this one
abbrev pub chain_of : Option JType → ℕ → Action → Held → Option Chain
chain_of result k a h = popped cell_sort (takes a) h.stack >>= λ x. (
    if ends_method a then last_chain result a (record h { stack = x.1 }) x.0
    else acted_on a (record h { stack = x.1 }) x.0 >>= λ after. chain_with result a (record h { stack = x.1 }) x.0 (to (suc k) after))
