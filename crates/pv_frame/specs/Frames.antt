-- Typed frames: the sorts of the operand stack and of the locals before each instruction (JVMS 4.10.1).
use Rattle.std.specs.Prelude.{◌≡◌, ◌⊎◌, ℕ, ◌-◌, ◌≤◌, Bool, true, false, if◌then◌else◌, List, [], ◌∷◌, ◌++◌, length, sum_by, Option, Some, None, option_map, slice_get, replicate, Contains}
use Rattle.std.specs.List.{AllZip, AllByRecursion, flat_map}
use Rattle.pv_pool.specs.Readers.{◌>>=◌}
use Rattle.pv_value.specs.declared.descriptor.JType.{JType}
use Rattle.pv_value.specs.declared.descriptor.JType.TheVariants.{J, D}
use Rattle.pv_frame.specs.declared.sort.Sort.{Sort}
use Rattle.pv_frame.specs.declared.sort.Sort.TheVariants as sort
use Rattle.pv_frame.specs.declared.action.Action.{Action}
use Rattle.pv_frame.specs.declared.action.Action.TheVariants as act
use Rattle.pv_frame.specs.Stacks.{fits, width, popped, moved, has_room, set_local}
use Rattle.pv_frame.specs.Effects.{sort_of_type, sorts_of_result, sorts_given, takes, gives, successors}
use Rattle.pv_frame.specs.Programs.{IsAt}
use Rattle.pv_frame.specs.declared.program.Program.{Program}
use Rattle.pv_frame.specs.declared.frame.Frame.{Frame}

-- ---- the entry

-- a long and a double take two locals
abbrev pub sorts_of : JType → List Sort
sorts_of J = sort.Long ∷ sort.Unknown ∷ []
sorts_of D = sort.Unknown ∷ sort.Unknown ∷ []
sorts_of t = sort_of_type t ∷ []

-- an instance method has `this` in its first local
abbrev pub this_sorts : Bool → List Sort
this_sorts true = sort.Ref ∷ []
this_sorts false = []

-- what `this` and the parameters take
abbrev pub passed_to : Program → List Sort
passed_to p = this_sorts p.instance ++ flat_map sorts_of p.desc.params

-- nothing is known of the locals after those
abbrev pub padded_sorts : ℕ → List Sort → List Sort
padded_sorts n sorts = sorts ++ replicate (n - length sorts) sort.Unknown

-- where a method begins, with an empty stack
abbrev pub entry_frame : Program → Frame
entry_frame p = record { stack = []; locals = padded_sorts p.max_locals (passed_to p) }

-- ---- the frame after an instruction

abbrev pub same : Sort → Sort
same s = s

-- a local holds a value of a sort
abbrev pub holds : Option Sort → Sort → Bool
holds (Some t) s = fits t s
holds None s = false

abbrev pub local_holds : Frame → ℕ → Sort → Bool
local_holds f k s = holds (slice_get f.locals k) s

abbrev pub pushed : List Sort → Frame → Frame
pushed sorts f = record f { stack = sorts ++ f.stack }

-- after an action that has taken its operands; none for a return and a throw
abbrev pub frame_done : Action → Frame → Option Frame
frame_done (act.Load s k) f = if local_holds f k s then Some (pushed (s ∷ []) f) else None
frame_done (act.Store s k) f = if has_room s k f.locals then Some (record f { locals = set_local same sort.Unknown k s f.locals }) else None
frame_done (act.Increase k n) f = if local_holds f k sort.Int then Some f else None
frame_done (act.Move m) f = option_map (λ stack. record f { stack = stack }) (moved same m f.stack)
frame_done (act.Give s) f = None
frame_done act.Throw f = None
frame_done a f = Some (pushed (gives a) f)

-- the frame after an action that goes on, where it finds the sorts that it needs
abbrev pub frame_after : Action → Frame → Option Frame
frame_after a f = do
  operands ← popped same (takes a) f.stack
  frame_done a (record f { stack = operands.1 })

-- ---- agreement

-- along an edge the stacks are equal, and each local of the target is the source's or unknown
pub record Flows (source target : Frame) : Type 0 where
  pub stack : target.stack ≡ source.stack
  pub locals : AllZip (λ s t. (t ≡ s) ⊎ (t ≡ sort.Unknown)) source.locals target.locals

-- the frame before the instruction at a place, where it is reached
abbrev pub IsFrameAt : List (Option Frame) → ℕ → Frame → Type 0
IsFrameAt frames k f = slice_get frames k ≡ Some (Some f)

-- an edge leads to this place, with this frame
pub record LeadsTo (frames : List (Option Frame)) (source : Frame) (j : ℕ) : Type 0 where
  pub target : Frame
  pub there : IsFrameAt frames j target
  pub flows : Flows source target

-- a return gives a value of the sort of the method's result, or none where it has none
abbrev pub IsEnd : Program → Action → Type 0
IsEnd p (act.Give s) = sorts_given s ≡ sorts_of_result p.desc.result
IsEnd p act.Throw = Unit {0}
IsEnd p _ = ⊥

-- the operands lie on the stack
abbrev pub Finds : List Sort → Frame → Type 0
Finds sorts f = (operands : List Sort × List Sort) × (popped same sorts f.stack ≡ Some operands)

-- the instruction ends the method
abbrev pub Leaves : Program → Action → Frame → Type 0
Leaves p a f = IsEnd p a × Finds (takes a) f

-- it goes on, along each of its edges
pub record GoesOn (frames : List (Option Frame)) (k : ℕ) (a : Action) (f : Frame) : Type 0 where
  pub after : Frame
  pub is : frame_after a f ≡ Some after
  pub edges : AllByRecursion (LeadsTo frames after) (successors k a)

-- the instruction at a reached place is there, finds what it needs, and leads to frames
pub record IsTyped (p : Program) (frames : List (Option Frame)) (k : ℕ) (f : Frame) : Type 0 where
  pub action : Action
  pub at : IsAt p k action
  pub room : sum_by width f.stack ≤ p.max_stack
  pub goes : Leaves p action f ⊎ GoesOn frames k action f

-- The frames agree with every reached instruction; the first is reached from the entry, and what `this` and the parameters take is within the locals.
pub record Agrees (p : Program) (frames : List (Option Frame)) : Type 0 where
  pub passed : length (passed_to p) ≤ p.max_locals
  pub entry : LeadsTo frames (entry_frame p) 0
  pub each : (k : ℕ) (f : Frame) → IsFrameAt frames k f → IsTyped p frames k f

-- some list of frames agrees
abbrev pub HasFrames : Program → Type 0
HasFrames p = (frames : List (Option Frame)) × Agrees p frames

-- ---- the frames that are inferred

-- instructions that are reached along edges from the first
pub data Reached (p : Program) : ℕ → Type 0 where
  first : Reached p 0
  next : (k j : ℕ) (a : Action) → Reached p k → IsAt p k a → Contains (successors k a) j → Reached p j

-- frames that agree, of which there is one exactly where the instruction is reached
pub record AreFrames (p : Program) (frames : List (Option Frame)) : Type 0 where
  pub agrees : Agrees p frames
  pub one_each : length frames ≡ length p.actions
  pub reached : (k : ℕ) (f : Frame) → IsFrameAt frames k f → Reached p k

-- of all frames that agree these have the fewest unknown locals
pub record IsInferred (p : Program) (frames : List (Option Frame)) : Type 0 where
  pub well_typed : AreFrames p frames
  pub fewest : (others : List (Option Frame)) → Agrees p others → (k : ℕ) (f g : Frame) → IsFrameAt frames k f → IsFrameAt others k g → Flows f g
