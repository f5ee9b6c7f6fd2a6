-- A method that isn't refused, with its blocks and the forest of its loops.
use Rattle.std.specs.Prelude.{◌≤◌, List, length, Option}
use Rattle.pv_class.specs.declared.file.ClassFile.{ClassFile}
use Rattle.pv_class.specs.declared.file.Method.{Method}
use Rattle.pv_frame.specs.declared.program.Program.{Program}
use Rattle.pv_frame.specs.declared.frame.Frame.{Frame}
use Rattle.pv_flow.specs.declared.block.Block.{Block}
use Rattle.pv_flow.specs.declared.flow.TheConstants.{MOST_BLOCKS}
use Rattle.pv_flow.specs.Edges.{edges_of}
use Rattle.pv_loops.specs.declared.forest.Forest.{Forest}
use Rattle.pv_loops.specs.Ranks.{IsOrdered, IsArranged}
use Rattle.pv_runs.specs.Methods.{IsShaped}

-- a method with its frames, its blocks in an order that edges follow and in which those of a loop stand together, and the forest of their loops
pub record IsRoutine (p : Program) (frames : List (Option Frame)) (blocks : List Block) (forest : Forest) : Type 0 where
  pub file : ClassFile
  pub method : Method
  pub shaped : IsShaped file method p frames blocks forest
  pub few : length blocks ≤ MOST_BLOCKS
  pub ordered : IsOrdered (edges_of blocks) forest
  pub arranged : IsArranged forest
