-- Tables of marks, a row for each place with a mark for each local; private to this crate.
use Rattle.std.specs.Prelude.{◌≡◌, ◌⊎◌, ℕ, ◌+◌, ◌≤◌, ◌<◌, Bool, true, false, List, [], ◌∷◌, length, Option, Some, None, slice_get, Contains}
use Rattle.pv_frame.specs.declared.sort.Sort.{Sort}
use Rattle.pv_frame.specs.declared.sort.Sort.TheVariants.{Unknown}
use Rattle.pv_frame.specs.declared.action.Action.{Action}
use Rattle.pv_frame.specs.declared.frame.Frame.{Frame}
use Rattle.pv_frame.specs.declared.program.Program.{Program}
use Rattle.pv_frame.specs.Effects.{successors}
use Rattle.pv_frame.specs.Programs.{IsAt}
use Rattle.pv_live.specs.Live.{Reads, Writes, Live}

-- ---- rows

-- local x is marked in a row
abbrev pub IsMarked : List Bool → ℕ → Type 0
IsMarked row x = slice_get row x ≡ Some true

-- a row with those locals marked besides of which Q holds
pub record Marks (Q : ℕ → Type 0) (old new : List Bool) : Type 0 where
  pub long : length new ≡ length old
  pub kept : (x : ℕ) → IsMarked old x → IsMarked new x
  pub added : (x : ℕ) → x < length old → Q x → IsMarked new x
  pub only : (x : ℕ) → IsMarked new x → IsMarked old x ⊎ Q x

-- ---- tables

-- local x is marked at place k
pub record MarkedAt (rows : List (List Bool)) (k x : ℕ) : Type 0 where
  pub row : List Bool
  pub there : slice_get rows k ≡ Some row
  pub marked : IsMarked row x

-- it is marked at one of some places
pub record MarkedAtOne (rows : List (List Bool)) (places : List ℕ) (x : ℕ) : Type 0 where
  pub place : ℕ
  pub among : Contains places place
  pub there : MarkedAt rows place x

-- an action reads local x, or x is live after it and it doesn't write x
abbrev pub IsLiveIf : Action → ℕ → Bool → Type 0
IsLiveIf a x after = Reads a x ⊎ ((Writes a x → ⊥) × (after ≡ true))

-- the same by a row of marks after it
abbrev pub IsLiveBefore : Action → List Bool → ℕ → Type 0
IsLiveBefore a after x = Reads a x ⊎ ((Writes a x → ⊥) × IsMarked after x)

-- the same by the marks at the places to which the action at place k may lead
abbrev pub IsLiveBy : List (List Bool) → ℕ → Action → ℕ → Type 0
IsLiveBy rows k a x = Reads a x ⊎ ((Writes a x → ⊥) × MarkedAtOne rows (successors k a) x)

-- a row for each place, as wide as there are locals, in which live locals alone are marked
pub record IsTable (p : Program) (rows : List (List Bool)) : Type 0 where
  pub long : length rows ≡ length p.actions
  pub wide : (k : ℕ) (row : List Bool) → slice_get rows k ≡ Some row → length row ≡ p.max_locals
  pub sound : (k x : ℕ) → MarkedAt rows k x → Live p k x

-- at place k all is marked that is live there by the marks
abbrev pub IsDoneAt : Program → List (List Bool) → ℕ → Type 0
IsDoneAt p rows k = (a : Action) → IsAt p k a → (x : ℕ) → x < p.max_locals → IsLiveBy rows k a x → MarkedAt rows k x

-- and at all later places
abbrev pub IsDone : Program → List (List Bool) → ℕ → Type 0
IsDone p rows b = (k : ℕ) → b ≤ k → IsDoneAt p rows k

-- how many locals of a row aren't marked
abbrev pub unmarked : List Bool → ℕ
unmarked [] = 0
unmarked (true ∷ row) = unmarked row
unmarked (false ∷ row) = 1 + unmarked row

abbrev pub unmarked_in : List (List Bool) → ℕ
unmarked_in [] = 0
unmarked_in (row ∷ rows) = unmarked row + unmarked_in rows

-- at place k some local was marked, or none was left to mark
abbrev pub Visited : Program → ℕ → List (List Bool) → List (List Bool) → Bool → Type 0
Visited p k old new true = unmarked_in new < unmarked_in old
Visited p k old new false = (new ≡ old) × IsDoneAt p old k

-- some local was marked, or none was left to mark at any place
abbrev pub Swept : Program → List (List Bool) → List (List Bool) → Bool → Type 0
Swept p old new true = unmarked_in new < unmarked_in old
Swept p old new false = IsDone p new 0

-- of each local it is known at each place whether it is live
pub record KnowLive (p : Program) (rows : List (List Bool)) : Type 0 where
  pub table : IsTable p rows
  pub complete : (k x : ℕ) → x < p.max_locals → Live p k x → MarkedAt rows k x

-- ---- frames

-- the locals that are marked, and Unknown for the others
pub record AreKept (row : List Bool) (locals kept : List Sort) : Type 0 where
  pub long : length kept ≡ length locals
  pub marked : (x : ℕ) (s t : Sort) → slice_get locals x ≡ Some s → slice_get kept x ≡ Some t → IsMarked row x → t ≡ s
  pub others : (x : ℕ) (s t : Sort) → slice_get locals x ≡ Some s → slice_get kept x ≡ Some t → (IsMarked row x → ⊥) → t ≡ Unknown

-- the same of a frame, whose stack stays
pub record IsKeptFrame (row : List Bool) (f g : Frame) : Type 0 where
  pub stack : g.stack ≡ f.stack
  pub locals : AreKept row f.locals g.locals

-- the same where there may be none
abbrev pub IsKeptOption : List Bool → Option Frame → Option Frame → Type 0
IsKeptOption row None None = Unit {0}
IsKeptOption row (Some f) (Some g) = IsKeptFrame row f g
IsKeptOption row _ _ = ⊥

-- the same of each frame of a list, by the row of its place
pub record AreKeptFrames (rows : List (List Bool)) (frames kept : List (Option Frame)) : Type 0 where
  pub long : length kept ≡ length frames
  pub each : (k : ℕ) (row : List Bool) (f g : Option Frame) → slice_get rows k ≡ Some row → slice_get frames k ≡ Some f → slice_get kept k ≡ Some g → IsKeptOption row f g

-- a frame, if it is there, has this number of locals
abbrev pub HasLocals : ℕ → Option Frame → Type 0
HasLocals n None = Unit {0}
HasLocals n (Some f) = n ≡ length f.locals

-- a row for each place, as wide as the locals of the frame there
pub record Match (rows : List (List Bool)) (frames : List (Option Frame)) : Type 0 where
  pub long : length rows ≡ length frames
  pub wide : (k : ℕ) (row : List Bool) (f : Option Frame) → slice_get rows k ≡ Some row → slice_get frames k ≡ Some f → HasLocals (length row) f
