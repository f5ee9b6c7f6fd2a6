-- What loops carry, from what each block writes.
use Rattle.std.specs.Prelude.{◌≡◌, ℕ, ◌-◌, ◌<◌, ◌≤◌, zero, suc, Bool, true, false, ◌||◌, ◌&&◌, ◌==◌, not, if◌then◌else◌, List, length, Option, Some, slice_get, slice_index_or, slice_set}
use Rattle.std.specs.List.{Contains, list_any}
use Rattle.pv_frame.specs.declared.action.Action.{Action}
use Rattle.pv_frame.specs.declared.action.Action.TheVariants as act
use Rattle.pv_frame.specs.declared.program.Program.{Program}
use Rattle.pv_frame.specs.declared.frame.Frame.{Frame}
use Rattle.pv_frame.specs.Programs.{IsAt}
use Rattle.pv_frame.specs.Frames.{IsFrameAt}
use Rattle.pv_flow.specs.declared.block.Block.{Block}
use Rattle.pv_loops.specs.declared.forest.Loop.{Loop}
use Rattle.pv_loops.specs.declared.forest.Forest.{Forest}
use Rattle.pv_runs.specs.Held.{local_slot, Held, held_at, acted}
use Rattle.pv_runs.specs.Blocks.{acted_along}
use Rattle.pv_runs.specs.Carrying.{holds_wide, writes_local, writes_along, block_writes, carries}
use Rattle.pv_layout.specs.declared.carrying.Writes.{Writes}
use Rattle.pv_layout.specs.declared.carrying.Walk.{Walk}

-- ---- the slots that a test picks

-- of the heap and of this many locals it has those that the test picks
pub record Marks (count : ℕ) (test : ℕ → Bool) (w : Writes) : Type 0 where
  pub heap : w.heap ≡ test 3
  pub size : length w.locals.items ≡ count
  pub locals : (k : ℕ) → k < count → slice_index_or w.locals.items k false ≡ test (local_slot k)

-- both of the first and of the second
pub record IsUnion (a b both : Writes) : Type 0 where
  pub heap : both.heap ≡ (a.heap || b.heap)
  pub size : length both.locals.items ≡ length a.locals.items
  pub locals : (k : ℕ) → k < length a.locals.items → slice_index_or both.locals.items k false ≡ (slice_index_or a.locals.items k false || slice_index_or b.locals.items k false)

-- ---- what a block writes

-- it has one mark of each kind for each local
abbrev pub IsEven : Walk → Type 0
IsEven w = length w.wide.items ≡ length w.written.items

-- which of the locals that are held have a value of category 2
pub record Knows (h : Held) (wide : List Bool) : Type 0 where
  pub size : length wide ≡ length h.locals
  pub each : (k : ℕ) → k < length wide → slice_index_or wide k false ≡ holds_wide h.locals k

-- without the value of category 2 in the local before this, and with a mark where it is lost
abbrev pub lost_before : ℕ → List Bool → List Bool
lost_before zero wide = wide
lost_before (suc k) wide = if slice_index_or wide k false then slice_set wide k false else wide

abbrev pub marked_before : ℕ → List Bool → List Bool → List Bool
marked_before zero wide written = written
marked_before (suc k) wide written = if slice_index_or wide k false then slice_set written k true else written

-- a store into local k, whose value is of category 2 or isn't, writes local j
abbrev pub stores : List Bool → ℕ → Bool → ℕ → Bool
stores wide k two j = (j == k) || (two && (j == suc k)) || (slice_index_or wide j false && (suc j == k))

-- what a store writes is written too; of the locals that it writes only local k may hold a value of category 2
pub record Stores (k : ℕ) (two : Bool) (old new : Walk) : Type 0 where
  pub size : length new.wide.items ≡ length old.wide.items
  pub even : IsEven new
  pub wide : (j : ℕ) → j < length old.wide.items → slice_index_or new.wide.items j false ≡ (if j == k then two else (slice_index_or old.wide.items j false && not (stores old.wide.items k two j)))
  pub written : (j : ℕ) → j < length old.wide.items → slice_index_or new.written.items j false ≡ (slice_index_or old.written.items j false || stores old.wide.items k two j)

-- it leaves the locals as they are
abbrev pub IsOther : Action → Type 0
IsOther (act.Store s k) = ⊥
IsOther (act.Increase k by) = ⊥
IsOther a = Unit {0}

-- what the action writes is written too, and the walk goes on from what is held after it
pub record Acts (a : Action) (old new : Walk) : Type 0 where
  pub size : length new.wide.items ≡ length old.wide.items
  pub even : IsEven new
  pub wide : (h g : Held) → Knows h old.wide.items → acted a h ≡ Some g → Knows g new.wide.items
  pub written : (h : Held) → Knows h old.wide.items → (j : ℕ) → j < length old.wide.items → slice_index_or new.written.items j false ≡ (slice_index_or old.written.items j false || writes_local h.locals a j)

-- the walk has come over the first n actions of a block, where this is held at its beginning
pub record Walked (p : Program) (h : Held) (first n : ℕ) (heap : Bool) (w : Walk) : Type 0 where
  pub size : length w.wide.items ≡ p.max_locals
  pub knows : (g : Held) → acted_along p n first h ≡ Some g → Knows g w.wide.items
  pub marks : Marks p.max_locals (writes_along p n first h) (record { heap = heap; locals = w.written })

-- the actions of the block go on from its frame to the last one
pub record RunsThrough (p : Program) (frames : List (Option Frame)) (b : Block) : Type 0 where
  pub frame : Frame
  pub there : IsFrameAt frames b.first frame
  pub long : length frame.locals ≡ p.max_locals
  pub some : b.first ≤ b.last
  pub held : Held
  pub along : acted_along p (b.last - b.first) b.first (held_at frame) ≡ Some held
  pub action : Action
  pub at : IsAt p b.last action

abbrev pub AllRunThrough : Program → List (Option Frame) → List Block → Type 0
AllRunThrough p frames blocks = (n : ℕ) (b : Block) → slice_get blocks n ≡ Some b → RunsThrough p frames b

-- what the block writes
abbrev pub IsWritten : Program → List (Option Frame) → Block → Writes → Type 0
IsWritten p frames b w = Marks p.max_locals (λ s. block_writes p frames s b) w

-- .. each block
pub record AreWritten (p : Program) (frames : List (Option Frame)) (blocks : List Block) (all : List Writes) : Type 0 where
  pub size : length all ≡ length blocks
  pub each : (n : ℕ) (b : Block) (w : Writes) → slice_get blocks n ≡ Some b → slice_get all n ≡ Some w → IsWritten p frames b w

-- ---- what a loop carries

-- each has this many locals
abbrev pub AreOfSize : ℕ → List Writes → Type 0
AreOfSize count all = (n : ℕ) (w : Writes) → slice_get all n ≡ Some w → length w.locals.items ≡ count

abbrev pub AreBelow : ℕ → List ℕ → Type 0
AreBelow n members = (m : ℕ) → Contains members m → m < n

-- whatever picks what each has, what a member has is picked
abbrev pub Unites : ℕ → List Writes → List ℕ → Writes → Type 0
Unites count all members w = (test : ℕ → ℕ → Bool) → ((n : ℕ) (x : Writes) → slice_get all n ≡ Some x → Marks count (test n) x) → Marks count (λ s. list_any (λ n. test n s) members) w

-- what the loop with this header carries
pub record IsCarried (p : Program) (frames : List (Option Frame)) (blocks : List Block) (forest : Forest) (h : ℕ) (c : Writes) : Type 0 where
  pub heap : c.heap ≡ carries p frames blocks forest.loops.items h 3
  pub size : length c.locals.items ≡ p.max_locals
  pub locals : (k : ℕ) (b : Bool) → slice_get c.locals.items k ≡ Some b → b ≡ carries p frames blocks forest.loops.items h (local_slot k)

-- .. each loop
pub record AreCarried (p : Program) (frames : List (Option Frame)) (blocks : List Block) (forest : Forest) (all : List Writes) : Type 0 where
  pub size : length all ≡ length forest.loops.items
  pub each : (i : ℕ) (l : Loop) (c : Writes) → slice_get forest.loops.items i ≡ Some l → slice_get all i ≡ Some c → IsCarried p frames blocks forest l.header c
