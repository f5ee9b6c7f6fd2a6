-- What is held where a block begins, from what a tree makes of each slot whose sort the frame knows; private to this crate.
use Rattle.std.specs.Prelude.{◌≡◌, ◌≢◌, ℕ, ◌-◌, Bool, true, false, List, [], ◌∷◌, length, Some, None, slice_get}
use Rattle.std.specs.List.{AllZip}
use Rattle.pv_frame.specs.declared.sort.Sort.{Sort}
use Rattle.pv_frame.specs.declared.sort.Sort.TheVariants as sort
use Rattle.pv_frame.specs.declared.frame.Frame.{Frame}
use Rattle.pv_frame.specs.declared.program.Program.{Program}
use Rattle.pv_graph.specs.declared.node.OpSort.{OpSort}
use Rattle.pv_graph.specs.declared.node.OpSort.TheVariants.{T, H}
use Rattle.pv_graph.specs.declared.node.Op.{Op}
use Rattle.pv_graph.specs.declared.node.Op.TheVariants as op
use Rattle.pv_graph.specs.declared.node.Node.{Node}
use Rattle.pv_graph.specs.Graphs.{Graph}
use Rattle.pv_graph.specs.Ops.{sort_over}
use Rattle.pv_equations.specs.Exp.{Exp, Over, NoExp}
use Rattle.pv_terms.specs.declared.names.Named.{Named}
use Rattle.pv_terms.specs.Reads.{Reads}
use Rattle.pv_runs.specs.Entries.{op_at, start_op}
use Rattle.pv_block.specs.declared.held.Cell.{Cell}
use Rattle.pv_block.specs.declared.ran.State.{State}
use Rattle.pv_block.specs.Sorted.{op_sort}
use Rattle.pv_block.specs.Ran.{slot_of, IsCellOf}
use Rattle.pv_build.specs.declared.slot.Slot.{Slot}
use Rattle.pv_build.specs.declared.slot.Slot.TheVariants as slot
use Rattle.pv_build.specs.declared.slot.Part.{Part}
use Rattle.pv_build.specs.declared.slot.Part.TheVariants as part
use Rattle.pv_build.specs.declared.source.Given.{Given}
use Rattle.pv_build.specs.Slots.{number_in}
use Rattle.pv_build.specs.Sources.{Gives, FoldsTo, FoldsToOne, IsReadFold}

-- ---- a cell

abbrev pub IsKnown : Sort → Type 0
IsKnown t = t ≢ sort.Unknown

-- a node of its sort is given, where that is known, and the tree gives an expression
abbrev pub CellGives : Graph → Given → ℕ → Sort → Type 0
CellGives g x s t = IsKnown t → Gives g x s None (op_sort t)

abbrev pub CellFoldsToOne : List Node → Given → ℕ → Sort → Type 0
CellFoldsToOne nodes x s t = IsKnown t → FoldsToOne nodes x s None

abbrev pub CellReadsFold : Graph → Given → ℕ → Sort → Graph → Cell → Type 0
CellReadsFold old x s t new c = IsKnown t → IsReadFold old x s None new c.node

-- ---- cells

-- a node of its sort is given for each cell whose sort is known
abbrev pub CellsGive : Graph → Given → Part → List Sort → Type 0
CellsGive g x which sorts = (i : ℕ) (t : Sort) → slice_get sorts i ≡ Some t → IsKnown t → Gives g x (number_in which (length sorts) i) None (op_sort t)

-- the tree gives what `base` has for these cells
abbrev pub CellsFold : List Node → List Named → Given → Part → List Sort → (ℕ → Exp) → Type 0
CellsFold nodes names x which sorts base =
    (i : ℕ) (t : Sort) → slice_get sorts i ≡ Some t → IsKnown t → FoldsTo nodes names x (number_in which (length sorts) i) None (Some (base (number_in which (length sorts) i)))

abbrev pub CellsFoldToSome : List Node → Given → Part → List Sort → Type 0
CellsFoldToSome nodes x which sorts = (names : List Named) × (base : ℕ → Exp) × CellsFold nodes names x which sorts base

-- the cells stand for what `base` has, as far as their sorts are known
abbrev pub CellsRead : List Node → List Named → List Cell → Part → ℕ → (ℕ → Exp) → Type 0
CellsRead nodes names cells which count base = (i : ℕ) (c : Cell) → slice_get cells i ≡ Some c → IsKnown c.sort → Reads nodes names c.node (base (number_in which count i))

abbrev pub CellsReadFold : Graph → Given → Part → List Sort → Graph → List Cell → Type 0
CellsReadFold old x which sorts new cells = (names : List Named) (base : ℕ → Exp) → CellsFold old.nodes names x which sorts base → CellsRead new.nodes names cells which (length sorts) base

-- the cells have these sorts, with nodes of them
abbrev pub AreCellsOf : Graph → List Cell → List Sort → Type 0
AreCellsOf g cells sorts = AllZip (IsCellOf g) cells sorts

-- ---- states

-- a node of its sort is given for each slot whose sort the frame knows
pub record FrameGives (g : Graph) (x : Given) (never : ℕ) (f : Frame) : Type 0 where
  pub token : Gives g x 0 (Some never) T
  pub heap : Gives g x 3 None H
  pub locals : CellsGive g x part.Locals f.locals
  pub stack : CellsGive g x part.Stack f.stack

-- the tree gives what `base` has for these slots
pub record FrameFolds (nodes : List Node) (names : List Named) (x : Given) (never : ℕ) (f : Frame) (base : ℕ → Exp) : Type 0 where
  pub token : FoldsTo nodes names x 0 (Some never) (Some (base 0))
  pub heap : FoldsTo nodes names x 3 None (Some (base 3))
  pub locals : CellsFold nodes names x part.Locals f.locals base
  pub stack : CellsFold nodes names x part.Stack f.stack base

abbrev pub FrameFoldsToSome : List Node → Given → ℕ → Frame → Type 0
FrameFoldsToSome nodes x never f = (names : List Named) × (base : ℕ → Exp) × FrameFolds nodes names x never f base

-- each slot whose node is known stands for what `base` has
abbrev pub ReadsState : List Node → List Named → State → (ℕ → Exp) → Type 0
ReadsState nodes names c base = (s n : ℕ) → slot_of c s ≡ Some n → Reads nodes names n (base s)

abbrev pub ReadsFrame : Graph → Given → ℕ → Frame → Graph → State → Type 0
ReadsFrame old x never f new c = (names : List Named) (base : ℕ → Exp) → FrameFolds old.nodes names x never f base → ReadsState new.nodes names c base

-- the frame knows the sort of the slot, and nodes of it have this sort
abbrev pub HasSlot : Frame → Slot → OpSort → Type 0
HasSlot f slot.Token t = t ≡ T
HasSlot f slot.Heap t = t ≡ H
HasSlot f (slot.Local k) t = (u : Sort) × (slice_get f.locals k ≡ Some u) × IsKnown u × (t ≡ op_sort u)
HasSlot f (slot.Place j) t = (i : ℕ) × (u : Sort) × (slice_get f.stack i ≡ Some u) × IsKnown u × (j ≡ length f.stack - 1 - i) × (t ≡ op_sort u)
HasSlot f s t = ⊥

-- ---- where a method begins

-- the operation of `this`, if there is one
abbrev pub this_ops : Bool → List Op
this_ops true = op.This ∷ []
this_ops false = []

-- the operations have the sorts that are known
abbrev pub AreOpsOf : List Op → List Sort → Type 0
AreOpsOf ops sorts = (i : ℕ) (t : Sort) → slice_get sorts i ≡ Some t → IsKnown t → sort_over (op_at ops i) [] ≡ Some (op_sort t)

-- the cells stand for the operations without kids
abbrev pub StartCellsRead : List Node → List Cell → List Op → Type 0
StartCellsRead nodes cells ops = (names : List Named) (i : ℕ) (c : Cell) → slice_get cells i ≡ Some c → IsKnown c.sort → Reads nodes names c.node (Over (op_at ops i) NoExp)

-- the operation of a local whose sort is known, and else unit
abbrev pub IsFirstOp : List Op → ℕ → Sort → Op → Type 0
IsFirstOp ops k sort.Unknown o = o ≡ op.Unit
IsFirstOp ops k t o = o ≡ op_at ops k

-- each slot whose node is known stands for the operation of the slot at the entry
abbrev pub ReadsStart : List Node → State → Program → Type 0
ReadsStart nodes c p = (names : List Named) → ReadsState nodes names c (λ s. Over (start_op p s) NoExp)
