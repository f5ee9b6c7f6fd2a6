-- A method with typed frames as a flow of its blocks.
use Rattle.std.specs.Prelude.{List, Option}
use Rattle.pv_frame.specs.declared.program.Program.{Program}
use Rattle.pv_frame.specs.declared.frame.Frame.{Frame}
use Rattle.pv_frame.specs.Frames.{AreFrames}
use Rattle.pv_flow.specs.declared.block.Block.{Block}
use Rattle.pv_flow.specs.Blocks.{IsFlow}
use Rattle.pv_flow.specs.Edges.{edges_of}
use Rattle.pv_loops.specs.declared.forest.Forest.{Forest}
use Rattle.pv_loops.specs.declared.forest.TheConstants.{MAX_DEPTH}
use Rattle.pv_loops.specs.Steps.{IsReducible}
use Rattle.pv_loops.specs.Forests.{IsForest, NestsUpTo}
use Rattle.pv_loops.specs.Ranks.{around}
use Rattle.pv_class.specs.declared.file.ClassFile.{ClassFile}
use Rattle.pv_class.specs.declared.file.Method.{Method}
use Rattle.pv_frame.specs.Programs.{IsProgramOf}
use Rattle.pv_equations.specs.Flow.{Flow}
use Rattle.pv_runs.specs.Blocks.{block_chain}
use Rattle.pv_runs.specs.Carrying.{carries}
use Rattle.pv_runs.specs.Entries.{start_op, start_plain}

-- the flow of a method: its blocks by their numbers, the loops around them, and what each loop carries
abbrev pub flow_of : Program → List (Option Frame) → List Block → Forest → Flow
flow_of p frames blocks forest = record {
  entry = 0;
  chain = block_chain p frames blocks;
  around = around forest;
  carried = carries p frames blocks forest.loops.items;
  start = start_op p;
  start_plain = start_plain p;
}

-- a method with its program, frames of it, its blocks, and the forest of their edges, which are reducible, with loops that nest at most 16
-- deep: what the layers below give for each method that isn't refused
pub record IsShaped (file : ClassFile) (m : Method) (p : Program) (frames : List (Option Frame)) (blocks : List Block) (forest : Forest) : Type 0 where
  pub program : IsProgramOf file m p
  pub well_typed : AreFrames p frames
  pub flow : IsFlow p blocks
  pub loops : IsForest (edges_of blocks) forest
  pub reducible : IsReducible (edges_of blocks)
  pub shallow : NestsUpTo (edges_of blocks) MAX_DEPTH
