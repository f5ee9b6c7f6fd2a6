-- How the blocks are found; private to this crate.
use Rattle.std.specs.Prelude.{◌≡◌, ℕ, suc, ◌<◌, ◌≤◌, Bool, true, List, [], ◌∷◌, length, map, Option, Some, slice_get, slice_set, slice_index}
use Rattle.pv_frame.specs.declared.action.Action.{Action}
use Rattle.pv_frame.specs.declared.frame.Frame.{Frame}
use Rattle.pv_frame.specs.declared.program.Program.{Program}
use Rattle.pv_frame.specs.Programs.{IsAt}
use Rattle.pv_frame.specs.Frames.{IsFrameAt}
use Rattle.pv_flow.specs.declared.block.Exit.{Exit}
use Rattle.pv_flow.specs.declared.block.Exit.TheVariants as exit
use Rattle.pv_flow.specs.declared.block.Block.{Block}
use Rattle.pv_flow.specs.Exits.{Departure, Goes, Returns, Throws, departures}
use Rattle.pv_flow.specs.Blocks.{Begins, IsSpan}

-- ---- where blocks begin

-- the marks after these places are marked
abbrev pub marked : List ℕ → List Bool → List Bool
marked [] begins = begins
marked (place ∷ places) begins = marked places (slice_set begins place true)

-- a mark for each place and for the end, set exactly where a block begins
pub record AreBegins (p : Program) (begins : List Bool) : Type 0 where
  pub one_each : length begins ≡ suc (length p.actions)
  pub sound : (k : ℕ) → slice_get begins k ≡ Some true → Begins p k
  pub all : (k : ℕ) → Begins p k → k < length begins → slice_get begins k ≡ Some true

-- ---- exits by the numbers of blocks

-- to a place below n, or out of the method
abbrev pub GoesBelow : ℕ → Departure → Type 0
GoesBelow n (Goes place) = place < n
GoesBelow n Returns = Unit {0}
GoesBelow n Throws = Unit {0}

-- an exit, where these are the numbers of the blocks that begin at places
abbrev pub exit_by : List ℕ → Departure → Exit
exit_by numbers (Goes place) = exit.To (slice_index numbers place)
exit_by numbers Returns = exit.Return
exit_by numbers Throws = exit.Throw

-- ---- the blocks that are reached

-- a block begins at this place, and it is reached
pub record IsHead (begins : List Bool) (frames : List (Option Frame)) (place : ℕ) : Type 0 where
  pub begin : slice_get begins place ≡ Some true
  pub frame : Frame
  pub there : IsFrameAt frames place frame

-- of the places below n, those where a block begins that is reached, in order, and the number of each, by place
pub record AreHeads (begins : List Bool) (frames : List (Option Frame)) (n : ℕ) (places numbers : List ℕ) : Type 0 where
  pub one_each : length numbers ≡ n
  pub few : length places ≤ n
  pub each : (m k : ℕ) → slice_get places m ≡ Some k → IsHead begins frames k
  pub below : (m k : ℕ) → slice_get places m ≡ Some k → k < n
  pub ascend : (l m j k : ℕ) → l < m → slice_get places l ≡ Some j → slice_get places m ≡ Some k → j < k
  pub all : (k : ℕ) → k < n → IsHead begins frames k → slice_get places (slice_index numbers k) ≡ Some k

-- a block begins after this place, and none between the two
pub record IsLast (begins : List Bool) (first last : ℕ) : Type 0 where
  pub some : first ≤ last
  pub next : slice_get begins (suc last) ≡ Some true
  pub whole : (k : ℕ) → first < k → k ≤ last → slice_get begins k ≡ Some true → ⊥

-- a block begins after some place from this one on
abbrev pub HasLast : List Bool → ℕ → Type 0
HasLast begins first = (last : ℕ) × IsLast begins first last

-- a block as it is made for a place: up to where the next one begins, with its exits by these numbers
pub record IsMade (p : Program) (numbers : List ℕ) (first : ℕ) (b : Block) : Type 0 where
  pub place : b.first ≡ first
  pub span : IsSpan p b.first b.last
  pub action : Action
  pub ends : IsAt p b.last action
  pub exits : b.exits ≡ map (exit_by numbers) (departures b.last action)
