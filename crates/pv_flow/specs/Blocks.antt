-- The blocks of a program: runs of instructions that are entered at the first and left at the last alone.
use Rattle.std.specs.Prelude.{◌≡◌, ℕ, suc, ◌<◌, ◌≤◌, true, List, Some, slice_get, Contains}
use Rattle.std.specs.List.{AllZip}
use Rattle.pv_frame.specs.declared.action.Action.{Action}
use Rattle.pv_frame.specs.declared.program.Program.{Program}
use Rattle.pv_frame.specs.Programs.{IsAt}
use Rattle.pv_frame.specs.Frames.{Reached}
use Rattle.pv_flow.specs.declared.block.Exit.{Exit}
use Rattle.pv_flow.specs.declared.block.Exit.TheVariants as exit
use Rattle.pv_flow.specs.declared.block.Block.{Block}
use Rattle.pv_flow.specs.Exits.{Departure, Goes, Returns, Throws, departures, ends_block, targets}

-- A block begins at the first instruction, at each target, also of an instruction that isn't reached, and after each
-- instruction that branches, ends the method or can throw. It may begin at the end of the code, which isn't reached.
pub data Begins (p : Program) : ℕ → Type 0 where
  first : Begins p 0
  target : (k j : ℕ) (a : Action) → IsAt p k a → Contains (targets a) j → Begins p j
  next : (k : ℕ) (a : Action) → IsAt p k a → ends_block a ≡ true → Begins p (suc k)

-- a block begins at `first`, the next one after `last`, and none between the two
pub record IsSpan (p : Program) (first last : ℕ) : Type 0 where
  pub begins : Begins p first
  pub some : first ≤ last
  pub whole : (k : ℕ) → first < k → k ≤ last → Begins p k → ⊥
  pub next : Begins p (suc last)

-- block n begins at this place
abbrev pub IsBlockAt : List Block → ℕ → ℕ → Type 0
IsBlockAt blocks n place = (b : Block) × (slice_get blocks n ≡ Some b) × (b.first ≡ place)

-- an exit of a block, by the number of the block that begins at the place to which the instruction goes
abbrev pub IsExit : List Block → Departure → Exit → Type 0
IsExit blocks (Goes place) (exit.To n) = IsBlockAt blocks n place
IsExit blocks Returns exit.Return = Unit {0}
IsExit blocks Throws exit.Throw = Unit {0}
IsExit blocks _ _ = ⊥

-- a block that is reached, with the exits of its last instruction
pub record IsBlock (p : Program) (blocks : List Block) (b : Block) : Type 0 where
  pub span : IsSpan p b.first b.last
  pub reached : Reached p b.first
  pub action : Action
  pub ends : IsAt p b.last action
  pub exits : AllZip (IsExit blocks) (departures b.last action) b.exits

-- the blocks that are reached, in the order of the code
pub record IsFlow (p : Program) (blocks : List Block) : Type 0 where
  pub each : (n : ℕ) (b : Block) → slice_get blocks n ≡ Some b → IsBlock p blocks b
  pub ascend : (m n : ℕ) (b c : Block) → m < n → slice_get blocks m ≡ Some b → slice_get blocks n ≡ Some c → b.first < c.first
  pub all : (k : ℕ) → Begins p k → Reached p k → (n : ℕ) × IsBlockAt blocks n k
