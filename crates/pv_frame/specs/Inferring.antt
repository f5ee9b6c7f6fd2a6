-- Inferring frames: the frames found so far, and the places whose instructions wait; private to this crate.
use Rattle.std.specs.Prelude.{◌≡◌, ◌⊎◌, ℕ, suc, ◌+◌, ◌≤◌, ◌<◌, if◌then◌else◌, List, [], ◌∷◌, length, sum_by, Option, Some, None, Result, Ok, Err, Contains}
use Rattle.std.specs.List.{AllZip, AllByRecursion}
use Rattle.pv_frame.specs.declared.sort.Sort.{Sort}
use Rattle.pv_frame.specs.declared.sort.Sort.TheVariants as sort
use Rattle.pv_frame.specs.declared.frame.Frame.{Frame}
use Rattle.pv_frame.specs.declared.program.Program.{Program}
use Rattle.pv_frame.specs.declared.stop.Untyped.{Untyped}
use Rattle.pv_frame.specs.declared.stop.Untyped.TheVariants as untyped
use Rattle.pv_frame.specs.Stacks.{fits}
use Rattle.pv_frame.specs.Frames.{entry_frame, passed_to, IsFrameAt, LeadsTo, IsTyped, Agrees, Reached}

-- what a call found, or that there is nothing to find, unless it ran out of memory
abbrev pub FoundOr : {A : Type 0} → Result A Untyped → (A → Type 0) → Type 0 → Type 0
FoundOr (Ok x) P Q = P x
FoundOr (Err untyped.Types) P Q = Q
FoundOr (Err untyped.Memory) P Q = Unit {0}

-- ---- frames of which two know the same

-- along an edge each local of the target is the source's or unknown
abbrev pub KnowsLess : List Sort → List Sort → Type 0
KnowsLess source target = AllZip (λ s t. (t ≡ s) ⊎ (t ≡ sort.Unknown)) source target

-- what both of two lists of locals know
abbrev pub met : List Sort → List Sort → List Sort
met [] ts = []
met (s ∷ ss) [] = []
met (s ∷ ss) (t ∷ ts) = (if fits s t then t else sort.Unknown) ∷ met ss ts

-- the frame at a place once an edge from this frame leads there
abbrev pub merged : Frame → Option Frame → Frame
merged source None = source
merged source (Some f) = record { stack = f.stack; locals = met source.locals f.locals }

abbrev pub SameStack : Frame → Option Frame → Type 0
SameStack source None = Unit {0}
SameStack source (Some f) = f.stack ≡ source.stack

-- ---- how much there is still to find

abbrev pub known : Sort → ℕ
known sort.Unknown = 0
known _ = 1

abbrev pub known_in : List Sort → ℕ
known_in [] = 0
known_in (s ∷ sorts) = known s + known_in sorts

-- a frame with n locals can lose those that it knows, and may still be to come
abbrev pub weight_of : ℕ → Option Frame → ℕ
weight_of n None = suc n
weight_of n (Some f) = known_in f.locals

abbrev pub weight : ℕ → List (Option Frame) → ℕ
weight n frames = sum_by (weight_of n) frames

abbrev pub HaveLocals : ℕ → List (Option Frame) → Type 0
HaveLocals n frames = (k : ℕ) (f : Frame) → IsFrameAt frames k f → length f.locals ≡ n

-- ---- edges from one instruction

-- each frame flows to one of the others at its place
abbrev pub Below : List (Option Frame) → List (Option Frame) → Type 0
Below frames others = (k : ℕ) (f : Frame) → IsFrameAt frames k f → LeadsTo others f k

-- edges from a frame to some places have been followed: each changed place waits, and all changes were needed
pub record Follows (frames : List (Option Frame)) (work : List ℕ) (source : Frame) (places : List ℕ) (now : List (Option Frame)) (left : List ℕ) : Type 0 where
  pub long : length now ≡ length frames
  pub stays : Below frames now
  pub leads : AllByRecursion (LeadsTo now source) places
  pub changed : (k : ℕ) (g : Frame) → IsFrameAt now k g → IsFrameAt frames k g ⊎ (Contains left k × Contains places k)
  pub kept : (k : ℕ) → Contains work k → Contains left k
  pub needed : (others : List (Option Frame)) → Below frames others → AllByRecursion (LeadsTo others source) places → Below now others
  pub locals : HaveLocals (length source.locals) now
  pub lighter : weight (length source.locals) now + length left ≤ weight (length source.locals) frames + length work

-- there are frames at no other places
abbrev pub Within : ℕ → List (Option Frame) → Type 0
Within n frames = (k : ℕ) (f : Frame) → IsFrameAt frames k f → k < n

-- no frames to which these flow have those edges
abbrev pub Clashes : List (Option Frame) → Frame → List ℕ → Type 0
Clashes frames source places = (others : List (Option Frame)) → Within (length frames) others → Below frames others → AllByRecursion (LeadsTo others source) places → ⊥

-- ---- all edges

-- the frames so far: each is reached, agrees with its instruction unless that waits, and flows to every list that agrees
pub record Inferring (p : Program) (frames : List (Option Frame)) (work : List ℕ) : Type 0 where
  pub passed : length (passed_to p) ≤ p.max_locals
  pub one_each : length frames ≡ length p.actions
  pub locals : HaveLocals p.max_locals frames
  pub entry : LeadsTo frames (entry_frame p) 0
  pub settled : (k : ℕ) (f : Frame) → IsFrameAt frames k f → Contains work k ⊎ IsTyped p frames k f
  pub reached : (k : ℕ) (f : Frame) → IsFrameAt frames k f → Reached p k
  pub fewest : (others : List (Option Frame)) → Agrees p others → Below frames others

-- one instruction that waited waits no more
pub record Visits (p : Program) (frames : List (Option Frame)) (work : List ℕ) (now : List (Option Frame)) (left : List ℕ) : Type 0 where
  pub inferring : Inferring p now left
  pub lighter : weight p.max_locals now + length left ≤ weight p.max_locals frames + length work
