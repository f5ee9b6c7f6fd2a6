-- What an action leaves of what is held, as data: lines, and what their values change. All of this is private to the crate.
use Rattle.std.specs.Prelude.{◌≡◌, ℕ, ℤ, pos, List, [], ◌∷◌, map, Option, Some, None, option_map, slice_set}
use Rattle.pv_pool.specs.Readers.{◌>>=◌}
use Rattle.pv_value.specs.declared.descriptor.JType.{JType}
use Rattle.pv_value.specs.declared.heap.Kind.TheVariants as kind
use Rattle.pv_value.specs.declared.name.Sym.{Sym}
use Rattle.pv_value.specs.declared.number.Num.{Num}
use Rattle.pv_value.specs.declared.number.Num.TheVariants as num
use Rattle.pv_value.specs.declared.operation.ScalarOp.TheVariants.{Iadd}
use Rattle.pv_value.specs.Operations as operation
use Rattle.pv_frame.specs.declared.sort.Sort.{Sort}
use Rattle.pv_frame.specs.declared.sort.Sort.TheVariants as sort
use Rattle.pv_frame.specs.declared.action.Action.{Action}
use Rattle.pv_frame.specs.declared.action.Action.TheVariants as act
use Rattle.pv_frame.specs.Effects.{sort_of, sort_of_type, sort_of_word, sort_of_kind, takes}
use Rattle.pv_graph.specs.declared.node.Op.{Op}
use Rattle.pv_graph.specs.declared.node.Op.TheVariants as op
use Rattle.pv_graph.specs.declared.node.Node.{Node}
use Rattle.pv_graph.specs.declared.node.OpSort.{OpSort}
use Rattle.pv_graph.specs.declared.node.OpSort.TheVariants.{I, T, H}
use Rattle.pv_graph.specs.Ops.{HaveSorts}
use Rattle.pv_graph.specs.Graphs.{Graph}
use Rattle.pv_equations.specs.Flow.{Part, Slot}
use Rattle.pv_runs.specs.Held.{push, local_cell}
use Rattle.pv_runs.specs.Held as parts
use Rattle.pv_block.specs.declared.held.Cell.{Cell}
use Rattle.pv_block.specs.declared.held.Held.{Held}
use Rattle.pv_block.specs.declared.line.Kid.TheVariants.{Given, Made}
use Rattle.pv_block.specs.declared.line.Kids.{Kids}
use Rattle.pv_block.specs.declared.line.Kids.TheVariants.{WithHeap, Operands, Zero, One, Two}
use Rattle.pv_block.specs.declared.effect.Change.{Change}
use Rattle.pv_block.specs.declared.effect.Change.TheVariants.{Pushes, Writes, Sets, Calls, CallsFor}
use Rattle.pv_block.specs.declared.effect.Effect.{Effect}
use Rattle.pv_block.specs.Cells.{local_of}
use Rattle.pv_block.specs.Sorted.{op_sort, IsSorted}
use Rattle.pv_block.specs.Standing.{Entry, HoldsFor}
use Rattle.pv_block.specs.Lines.{line, pick, all_made, sort_made, part_made, node_at, Stands}

-- ---- the effect of each action

abbrev pub number_op : Num → Op
number_op (num.Int n) = op.Int n
number_op (num.Long n) = op.Long n
number_op (num.Ref r) = op.Null

-- the value of an operation is pushed
abbrev pub pushes : Op → Kids → Sort → Effect
pushes o ks s = record { lines = line o ks ∷ []; change = Pushes s (Made 0) }

-- the value of an operation over the heap and the operands is the heap
abbrev pub writes : Op → Effect
writes o = record { lines = line o WithHeap ∷ []; change = Writes (Made 0) }

-- a value that is there is pushed
abbrev pub pushes_given : Sort → Effect
pushes_given s = record { lines = []; change = Pushes s (Given 2) }

-- an int is added to a local
abbrev pub increase : ℕ → ℤ → Effect
increase k by = record { lines = line (op.Int by) Zero ∷ line (op.Scalar Iadd) (Two (Given 2) (Made 0)) ∷ []; change = Sets k (Made 1) }

-- a call ends: its token, its heap, and its result if it has one
abbrev pub call : Sym → Option JType → Effect
call f None = record { lines = line (op.CallEnd f) WithHeap ∷ line op.Both (Two (Given 0) (Made 0)) ∷ line (op.CallHeap f) WithHeap ∷ []; change = Calls (Made 1) (Made 2) }
call f (Some t) = record {
  lines = line (op.CallEnd f) WithHeap ∷ line op.Both (Two (Given 0) (Made 0)) ∷ line (op.CallHeap f) WithHeap ∷ line (op.CallRes f) WithHeap ∷ [];
  change = CallsFor (Made 1) (Made 2) (sort_of_type t) (Made 3);
}

-- of an action that doesn't move values alone, and goes on; of a type test that finds no object of the class
abbrev pub effect_for : Action → Option Effect
effect_for (act.Push n) = Some (pushes (number_op n) Zero (sort_of n))
effect_for (act.Literal text) = Some (pushes (op.Literal text) Zero sort.Ref)
effect_for (act.Load s k) = Some (pushes_given s)
effect_for (act.Increase k by) = Some (increase k by)
effect_for (act.Scalar o) = Some (pushes (op.Scalar o) Operands (sort_of_word (operation.gives o)))
effect_for (act.Divide o) = Some (pushes (op.Scalar o) Operands (sort_of_word (operation.gives o)))
effect_for (act.GetStatic t f) = Some (pushes (op.GetStatic f) (One (Given 1)) (sort_of_type t))
effect_for (act.PutStatic t f) = Some (writes (op.PutStatic f))
effect_for (act.GetField t f) = Some (pushes (op.GetField f) WithHeap (sort_of_type t))
effect_for (act.PutField t f) = Some (writes (op.PutField f))
effect_for (act.LoadElement k) = Some (pushes (op.Load k) WithHeap (sort_of_kind k))
effect_for (act.StoreElement k) = Some (writes (op.Store k))
effect_for act.StoreRef = Some (writes (op.Store kind.Ref))
effect_for act.Length = Some (pushes op.Length Operands sort.Int)
effect_for (act.Cast class) = Some (pushes_given sort.Ref)
effect_for (act.InstanceOf class) = Some (pushes (op.Int (pos 0)) Zero sort.Int)
effect_for (act.Call d f) = Some (call f d.result)
effect_for (act.CallOn d f) = Some (call f d.result)
effect_for a = None

-- ---- over what it is: the token where the block begins, the heap, and the operands, or the local that the action reads

abbrev pub node_in : Cell → ℕ
node_in c = c.node

abbrev pub given_nodes : Held → List Cell → List ℕ
given_nodes c cells = c.start ∷ c.heap ∷ map node_in cells

abbrev pub read_in : Action → Held → List Cell → Option (List Cell)
read_in (act.Load s k) c cells = option_map (λ l. l ∷ []) (local_of s k c.locals)
read_in (act.Increase k by) c cells = option_map (λ l. l ∷ []) (local_of sort.Int k c.locals)
read_in a c cells = Some cells

abbrev pub cell_part : parts.Cell → Part
cell_part c = c.part

abbrev pub given_parts : parts.Held → List parts.Cell → List Part
given_parts h cells = Slot 0 ∷ h.heap ∷ map cell_part cells

abbrev pub read_parts : Action → parts.Held → List parts.Cell → Option (List parts.Cell)
read_parts (act.Load s k) h cells = option_map (λ l. l ∷ []) (local_cell h k s)
read_parts (act.Increase k by) h cells = option_map (λ l. l ∷ []) (local_cell h k sort.Int)
read_parts a h cells = Some cells

abbrev pub sorts_read : Action → List Sort
sorts_read (act.Load s k) = s ∷ []
sorts_read (act.Increase k by) = sort.Int ∷ []
sorts_read a = takes a

-- ---- what is held after it: in nodes, in parts, and in sorts

abbrev pub push_in : Cell → Held → Held
push_in cell c = record c { stack = cell ∷ c.stack }

abbrev pub changed : List ℕ → List ℕ → Held → Change → Held
changed given made c (Pushes s k) = push_in (record { sort = s; node = node_at given made k }) c
changed given made c (Writes k) = record c { heap = node_at given made k }
changed given made c (Sets n k) = record c { locals = slice_set c.locals n (record { sort = sort.Int; node = node_at given made k }) }
changed given made c (Calls t k) = record c { heap = node_at given made k; token = node_at given made t }
changed given made c (CallsFor t k s r) = push_in (record { sort = s; node = node_at given made r }) (record c { heap = node_at given made k; token = node_at given made t })

abbrev pub changed_parts : List Part → List Part → parts.Held → Change → Option parts.Held
changed_parts given made h (Pushes s k) = pick given made k >>= λ p. Some (push h s p)
changed_parts given made h (Writes k) = pick given made k >>= λ p. Some (record h { heap = p })
changed_parts given made h (Sets n k) = pick given made k >>= λ p. Some (record h { locals = slice_set h.locals n (record { sort = sort.Int; part = p }) })
changed_parts given made h (Calls t k) = pick given made t >>= λ q. pick given made k >>= λ p. Some (record h { heap = p; token = q })
changed_parts given made h (CallsFor t k s r) = pick given made t >>= λ q. pick given made k >>= λ p. pick given made r >>= λ v. Some (push (record h { heap = p; token = q }) s v)

abbrev pub effect_parts : Effect → List Part → parts.Held → Option parts.Held
effect_parts e given h = all_made part_made given e.lines [] >>= λ made. changed_parts given made h e.change

abbrev pub ChangeFits : List OpSort → List OpSort → Change → Type 0
ChangeFits given made (Pushes s k) = pick given made k ≡ Some (op_sort s)
ChangeFits given made (Writes k) = pick given made k ≡ Some H
ChangeFits given made (Sets n k) = pick given made k ≡ Some I
ChangeFits given made (Calls t k) = (pick given made t ≡ Some T) × (pick given made k ≡ Some H)
ChangeFits given made (CallsFor t k s r) = (pick given made t ≡ Some T) × (pick given made k ≡ Some H) × (pick given made r ≡ Some (op_sort s))

pub record EffectFits (given : List OpSort) (e : Effect) : Type 0 where
  pub made : List OpSort
  pub are : all_made sort_made given e.lines [] ≡ Some made
  pub change : ChangeFits given made e.change

-- whatever is held in parts, what is held in nodes after the effect stands for what is held in parts after it
abbrev pub HoldsAfter : Effect → List Node → List ℕ → Held → List Node → Held → Type 0
HoldsAfter e old given before new after = (at : Entry) (ps : List Part) (h g : parts.Held) → Stands at old given ps → HoldsFor at old before h → effect_parts e ps h ≡ Some g → HoldsFor at new after g

abbrev pub SortedAfter : Effect → Graph → List ℕ → Graph → Held → Type 0
SortedAfter e old given new after = (ss : List OpSort) → HaveSorts old.sorts given ss → EffectFits ss e → IsSorted new after
