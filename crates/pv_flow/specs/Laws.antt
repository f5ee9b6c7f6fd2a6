-- Laws of blocks, for every program and every flow of it.
use Rattle.std.specs.Prelude.{◌≡◌, ◌↔◌, ℕ, suc, ◌<◌, ◌≤◌, List, [], ◌∷◌, length, Some, slice_get, Contains}
use Rattle.pv_frame.specs.declared.action.Action.{Action}
use Rattle.pv_frame.specs.declared.program.Program.{Program}
use Rattle.pv_frame.specs.Effects.{successors}
use Rattle.pv_frame.specs.Programs.{IsAt}
use Rattle.pv_frame.specs.Frames.{Reached}
use Rattle.pv_flow.specs.declared.block.Block.{Block}
use Rattle.pv_flow.specs.Exits.{Goes, departures, targets}
use Rattle.pv_flow.specs.Blocks.{IsBlockAt, IsFlow}
use Rattle.pv_flow.specs.Edges.{edges_of, Edge, FromEntry}

-- the instruction at place k stands in block n
pub record StandsIn (blocks : List Block) (n k : ℕ) : Type 0 where
  pub block : Block
  pub at : slice_get blocks n ≡ Some block
  pub from : block.first ≤ k
  pub up_to : k ≤ block.last

-- the instruction at place k goes on to the next one alone, and can't throw
pub record GoesToNext (p : Program) (k : ℕ) : Type 0 where
  pub action : Action
  pub at : IsAt p k action
  pub successor : successors k action ≡ suc k ∷ []
  pub exit : departures k action ≡ Goes (suc k) ∷ []

-- in a block each instruction but the last goes on to the next one
abbrev pub Straight : Type 0
Straight = (p : Program) (blocks : List Block) → IsFlow p blocks → (n : ℕ) (b : Block) → slice_get blocks n ≡ Some b → (k : ℕ) → b.first ≤ k → k < b.last → GoesToNext p k

-- in a block each instruction but the first is the target of none
abbrev pub Untargeted : Type 0
Untargeted = (p : Program) (blocks : List Block) → IsFlow p blocks → (n : ℕ) (b : Block) → slice_get blocks n ≡ Some b → (k : ℕ) → b.first < k → k ≤ b.last
    → (i : ℕ) (a : Action) → IsAt p i a → Contains (targets a) k → ⊥

-- the exits of an instruction go to the places to which it may lead
abbrev pub Leading : Type 0
Leading = (k : ℕ) (a : Action) (j : ℕ) → Contains (departures k a) (Goes j) ↔ Contains (successors k a) j

-- each instruction that is reached stands in exactly one block
abbrev pub InOneBlock : Type 0
InOneBlock = (p : Program) (blocks : List Block) → IsFlow p blocks → (k : ℕ) → Reached p k → (n : ℕ) × StandsIn blocks n k × ((m : ℕ) → StandsIn blocks m k → m ≡ n)

-- each instruction in a block is reached
abbrev pub ReachedInBlocks : Type 0
ReachedInBlocks = (p : Program) (blocks : List Block) → IsFlow p blocks → (n k : ℕ) → StandsIn blocks n k → Reached p k

-- a program has one flow
abbrev pub OneFlow : Type 0
OneFlow = (p : Program) (xs ys : List Block) → IsFlow p xs → IsFlow p ys → xs ≡ ys

-- block 0 begins at place 0
abbrev pub Entry : Type 0
Entry = (p : Program) (blocks : List Block) → IsFlow p blocks → IsBlockAt blocks 0 0

-- each edge goes from a block of the list to a block of the list
abbrev pub EdgesWithin : Type 0
EdgesWithin = (p : Program) (blocks : List Block) → IsFlow p blocks → (m n : ℕ) → Edge (edges_of blocks) m n → (m < length blocks) × (n < length blocks)

-- each block is reached along edges from block 0
abbrev pub EdgesReach : Type 0
EdgesReach = (p : Program) (blocks : List Block) → IsFlow p blocks → (n : ℕ) → n < length blocks → FromEntry (edges_of blocks) n

-- an edge goes from one block to another exactly where the last instruction of the one may lead to the first of the other
abbrev pub EdgesOfCode : Type 0
EdgesOfCode = (p : Program) (blocks : List Block) → IsFlow p blocks → (m n : ℕ) (b c : Block) (a : Action) → slice_get blocks m ≡ Some b → slice_get blocks n ≡ Some c → IsAt p b.last a
    → Edge (edges_of blocks) m n ↔ Contains (successors b.last a) c.first
