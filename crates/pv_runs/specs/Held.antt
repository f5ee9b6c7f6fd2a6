-- What a block has computed before an instruction, as parts of the slots at its beginning: slot 0 is the token, 3 the heap, and from 4 on locals and places of the operand stack take turns.
use Rattle.std.specs.Prelude.{ℕ, zero, suc, ℤ, pos, ◌==◌, if◌then◌else◌, List, [], ◌∷◌, length, Option, Some, None, option_map, slice_get, slice_set, refl}
use Rattle.pv_pool.specs.Readers.{◌>>=◌}
use Rattle.pv_value.specs.declared.name.Sym.{Sym}
use Rattle.pv_value.specs.declared.number.Num.{Num}
use Rattle.pv_value.specs.declared.number.Num.TheVariants as num
use Rattle.pv_value.specs.declared.heap.Kind.TheVariants as kind
use Rattle.pv_value.specs.declared.descriptor.JType.{JType}
use Rattle.pv_value.specs.declared.operation.ScalarOp.TheVariants.{Iadd}
use Rattle.pv_value.specs.Operations as operation
use Rattle.pv_frame.specs.declared.sort.Sort.{Sort}
use Rattle.pv_frame.specs.declared.sort.Sort.TheVariants as sort
use Rattle.pv_frame.specs.declared.action.Action.{Action}
use Rattle.pv_frame.specs.declared.action.Action.TheVariants as act
use Rattle.pv_frame.specs.Stacks.{fits, popped, moved, has_room, set_local}
use Rattle.pv_frame.specs.Effects.{sort_of, sort_of_type, sort_of_word, sort_of_kind, takes}
use Rattle.pv_frame.specs.declared.frame.Frame.{Frame}
use Rattle.pv_graph.specs.declared.node.Op.TheVariants as op
use Rattle.pv_equations.specs.Flow.{Part, Parts, Slot, Of, NoPart, More, call_token}

-- ---- slots

-- local k, and the place of the operand stack above j others, counted from slot 4
abbrev pub local_place : ℕ → ℕ
local_place zero = zero
local_place (suc k) = suc (suc (local_place k))

abbrev pub stack_place : ℕ → ℕ
stack_place zero = suc zero
stack_place (suc j) = suc (suc (stack_place j))

abbrev pub local_slot : ℕ → ℕ
local_slot k = suc (suc (suc (suc (local_place k))))

abbrev pub stack_slot : ℕ → ℕ
stack_slot j = suc (suc (suc (suc (stack_place j))))

-- what locals and places of the stack have, by turns
abbrev pub by_turns : {A : Type 0} → (ℕ → A) → (ℕ → A) → ℕ → A
by_turns local place zero = local zero
by_turns local place (suc zero) = place zero
by_turns local place (suc (suc n)) = by_turns (λ k. local (suc k)) (λ j. place (suc j)) n

-- slot 0, slots 1 to 3, and the others
abbrev pub slots : {A : Type 0} → A → A → A → A → (ℕ → A) → ℕ → A
slots token fault result heap others zero = token
slots token fault result heap others (suc zero) = fault
slots token fault result heap others (suc (suc zero)) = result
slots token fault result heap others (suc (suc (suc zero))) = heap
slots token fault result heap others (suc (suc (suc (suc n)))) = others n

-- ---- parts

-- a value of the operand stack or of a local: its sort, and what it is computed by
pub record Cell : Type 0 where
  pub sort : Sort
  pub part : Part

pub record Held : Type 0 where
  pub stack : List Cell
  pub locals : List Cell
  pub heap : Part
  pub token : Part

abbrev pub cell_sort : Cell → Sort
cell_sort c = c.sort

abbrev pub unit_part : Part
unit_part = Of op.Unit refl NoPart

abbrev pub clear_part : Part
clear_part = Of op.Clear refl NoPart

abbrev pub null_part : Part
null_part = Of op.Null refl NoPart

abbrev pub int_part : ℤ → Part
int_part n = Of (op.Int n) refl NoPart

-- no instruction pushes a reference other than null
abbrev pub number_part : Num → Part
number_part (num.Int n) = int_part n
number_part (num.Long n) = Of (op.Long n) refl NoPart
number_part (num.Ref r) = null_part

abbrev pub parts_of : List Cell → Parts
parts_of [] = NoPart
parts_of (c ∷ cells) = More c.part (parts_of cells)

-- where no value is
abbrev pub unset : Cell
unset = record { sort = sort.Unknown; part = unit_part }

abbrev pub local_part : List Cell → ℕ → Part
local_part [] k = unit_part
local_part (c ∷ cells) zero = c.part
local_part (c ∷ cells) (suc k) = local_part cells k

abbrev pub stack_part : List Cell → ℕ → Part
stack_part [] j = unit_part
stack_part (c ∷ cells) j = if j == length cells then c.part else stack_part cells j

-- each slot at an exit that goes to a block
abbrev pub slots_of : Held → ℕ → Part
slots_of h = slots h.token clear_part unit_part h.heap (by_turns (local_part h.locals) (stack_part h.stack))

-- ---- where a block begins

abbrev pub local_cells : ℕ → List Sort → List Cell
local_cells k [] = []
local_cells k (s ∷ sorts) = record { sort = s; part = Slot (local_slot k) } ∷ local_cells (suc k) sorts

abbrev pub stack_cells : List Sort → List Cell
stack_cells [] = []
stack_cells (s ∷ sorts) = record { sort = s; part = Slot (stack_slot (length sorts)) } ∷ stack_cells sorts

abbrev pub held_at : Frame → Held
held_at f = record { stack = stack_cells f.stack; locals = local_cells 0 f.locals; heap = Slot 3; token = Slot 0 }

-- ---- what an action does

abbrev pub push : Held → Sort → Part → Held
push h s p = record h { stack = record { sort = s; part = p } ∷ h.stack }

-- the cell, where it has this sort
abbrev pub of_cell : Sort → Cell → Option Cell
of_cell s c = if fits c.sort s then Some c else None

-- the local of this sort
abbrev pub local_cell : Held → ℕ → Sort → Option Cell
local_cell h k s = slice_get h.locals k >>= of_cell s

abbrev pub increased_cell : ℤ → Cell → Cell
increased_cell by c = record { sort = sort.Int; part = Of (op.Scalar Iadd) refl (More c.part (More (int_part by) NoPart)) }

-- what a call takes: the heap, then the arguments
abbrev pub call_parts : Held → List Cell → Parts
call_parts h cells = More h.heap (parts_of cells)

-- after a call that ends: its heap and its token
abbrev pub after_call : Held → Sym → List Cell → Held
after_call h f cells = record h { heap = Of (op.CallHeap f) refl (call_parts h cells); token = call_token f (call_parts h cells) }

abbrev pub with_result : Held → Sym → List Cell → Option JType → Held
with_result h f cells None = after_call h f cells
with_result h f cells (Some t) = push (after_call h f cells) (sort_of_type t) (Of (op.CallRes f) refl (call_parts h cells))

-- after an action that goes on, from what is held without its operands; after a type test that finds no object of the class, for which it gives 0
abbrev pub acted_on : Action → Held → List Cell → Option Held
acted_on act.Nop h cells = Some h
acted_on (act.Push n) h cells = Some (push h (sort_of n) (number_part n))
acted_on (act.Literal text) h cells = Some (push h sort.Ref (Of (op.Literal text) refl NoPart))
acted_on (act.Load s k) h cells = option_map (λ c. push h s c.part) (local_cell h k s)
acted_on (act.Store s k) h (c ∷ []) = if has_room c.sort k h.locals then Some (record h { locals = set_local cell_sort unset k c h.locals }) else None
acted_on (act.Increase k by) h cells = option_map (λ c. record h { locals = slice_set h.locals k (increased_cell by c) }) (local_cell h k sort.Int)
acted_on (act.Move m) h cells = option_map (λ stack. record h { stack = stack }) (moved cell_sort m h.stack)
acted_on (act.Scalar o) h cells = Some (push h (sort_of_word (operation.gives o)) (Of (op.Scalar o) refl (parts_of cells)))
acted_on (act.Divide o) h cells = Some (push h (sort_of_word (operation.gives o)) (Of (op.Scalar o) refl (parts_of cells)))
acted_on (act.Branch t target) h cells = Some h
acted_on (act.Jump target) h cells = Some h
acted_on (act.Switch default cases) h cells = Some h
acted_on (act.GetStatic t f) h cells = Some (push h (sort_of_type t) (Of (op.GetStatic f) refl (More h.heap NoPart)))
acted_on (act.PutStatic t f) h cells = Some (record h { heap = Of (op.PutStatic f) refl (More h.heap (parts_of cells)) })
acted_on (act.GetField t f) h cells = Some (push h (sort_of_type t) (Of (op.GetField f) refl (More h.heap (parts_of cells))))
acted_on (act.PutField t f) h cells = Some (record h { heap = Of (op.PutField f) refl (More h.heap (parts_of cells)) })
acted_on (act.LoadElement k) h cells = Some (push h (sort_of_kind k) (Of (op.Load k) refl (More h.heap (parts_of cells))))
acted_on (act.StoreElement k) h cells = Some (record h { heap = Of (op.Store k) refl (More h.heap (parts_of cells)) })
acted_on act.StoreRef h cells = Some (record h { heap = Of (op.Store kind.Ref) refl (More h.heap (parts_of cells)) })
acted_on (act.Cast class) h (o ∷ []) = Some (push h sort.Ref o.part)
acted_on (act.InstanceOf class) h (o ∷ []) = Some (push h sort.Int (int_part (pos 0)))
acted_on act.Length h cells = Some (push h sort.Int (Of op.Length refl (parts_of cells)))
acted_on (act.Call d f) h cells = Some (with_result h f cells d.result)
acted_on (act.CallOn d f) h cells = Some (with_result h f cells d.result)
acted_on a h cells = None

abbrev pub acted : Action → Held → Option Held
acted a h = popped cell_sort (takes a) h.stack >>= λ x. acted_on a (record h { stack = x.1 }) x.0
