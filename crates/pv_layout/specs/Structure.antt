-- Structured programs: at most MOST_BLOCKS blocks, whose edges are reducible, and whose loops nest at most MAX_DEPTH deep.
use Rattle.std.specs.Prelude.{◌≡◌, ℕ, ◌≤◌, ◌+◌, List, length}
use Rattle.pv_frame.specs.declared.cause.Cause.{Cause}
use Rattle.pv_frame.specs.declared.cause.CauseKind.TheVariants as kind
use Rattle.pv_frame.specs.declared.program.Program.{Program}
use Rattle.pv_frame.specs.Causes.{cause}
use Rattle.pv_flow.specs.declared.block.Block.{Block}
use Rattle.pv_flow.specs.Blocks.{IsFlow}
use Rattle.pv_flow.specs.Edges.{edges_of}
use Rattle.pv_flow.specs.declared.flow.TheConstants.{MOST_BLOCKS}
use Rattle.pv_flow.specs.Answers.{HasTooMany}
use Rattle.pv_loops.specs.declared.fault.TStep.{TStep}
use Rattle.pv_loops.specs.declared.forest.TheConstants.{MAX_DEPTH}
use Rattle.pv_loops.specs.Steps.{Stuck, IsReducible}
use Rattle.pv_loops.specs.declared.forest.Forest.{Forest}
use Rattle.pv_loops.specs.Forests.{IsForest, NestsUpTo, HasDepth}
use Rattle.pv_loops.specs.Ranks.{IsOrdered, IsArranged}

-- the edges between the blocks that are reached, of which there are at most MOST_BLOCKS
pub record HasEdges (p : Program) (edges : List (List ℕ)) : Type 0 where
  pub blocks : List Block
  pub flow : IsFlow p blocks
  pub few : length blocks ≤ MOST_BLOCKS
  pub edges_are : edges ≡ edges_of blocks

-- the edges are reducible, and at most MAX_DEPTH loops lie in one another
pub record IsStructured (p : Program) : Type 0 where
  pub edges : List (List ℕ)
  pub has : HasEdges p edges
  pub reducible : IsReducible edges
  pub shallow : NestsUpTo edges MAX_DEPTH

-- Why a program isn't structured: too many blocks are reached; or steps lead from its edges to two or more nodes to which no step applies;
-- or its edges are reducible, and a loop has MAX_DEPTH others around it. Each of these is at 0, since it is in no single instruction.
pub data MeetsShape (p : Program) : Cause → Type 0 where
  blocks : HasTooMany p → MeetsShape p (cause kind.Blocks 0)
  irreducible : (edges : List (List ℕ)) (steps : List TStep) → HasEdges p edges → Stuck edges steps → MeetsShape p (cause kind.Irreducible 0)
  depth : (edges : List (List ℕ)) → HasEdges p edges → IsReducible edges → HasDepth edges (MAX_DEPTH + 1) → MeetsShape p (cause kind.Depth 0)

-- the blocks of a structured program, with the forest of their loops and an order of them that edges follow and in which those of a loop stand together
pub record IsLaidOut (p : Program) (blocks : List Block) (forest : Forest) : Type 0 where
  pub flow : IsFlow p blocks
  pub few : length blocks ≤ MOST_BLOCKS
  pub loops : IsForest (edges_of blocks) forest
  pub ordered : IsOrdered (edges_of blocks) forest
  pub arranged : IsArranged forest
  pub reducible : IsReducible (edges_of blocks)
  pub shallow : NestsUpTo (edges_of blocks) MAX_DEPTH
