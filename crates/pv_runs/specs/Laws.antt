-- The laws of a method's flow.
use Rattle.std.specs.Prelude.{ℕ, ◌<◌, ◌≤◌, List, length, Option}
use Rattle.pv_class.specs.declared.file.ClassFile.{ClassFile}
use Rattle.pv_class.specs.declared.file.Method.{Method}
use Rattle.pv_frame.specs.declared.program.Program.{Program}
use Rattle.pv_frame.specs.declared.frame.Frame.{Frame}
use Rattle.pv_flow.specs.declared.block.Block.{Block}
use Rattle.pv_loops.specs.declared.forest.Forest.{Forest}
use Rattle.pv_loops.specs.declared.forest.TheConstants.{MAX_DEPTH}
use Rattle.pv_equations.specs.Flow.{Flow, Shape, Compact, IsFinite}
use Rattle.pv_runs.specs.Methods.{flow_of, IsShaped}

-- what the laws of equations ask of a flow: ranks of its blocks, below `top`, loops of a bounded depth, and finitely many blocks and slots
pub record IsRanked (f : Flow) (blocks : ℕ) : Type 0 where
  pub rank : ℕ → ℕ
  pub top : ℕ
  pub slots : ℕ
  pub shape : Shape f rank
  pub compact : Compact f rank
  pub below : (b : ℕ) → rank b < top
  pub deep : (b : ℕ) → length (f.around b) ≤ MAX_DEPTH
  pub finite : IsFinite f blocks slots

-- the flow of a method's blocks and loops is ranked, and finite
abbrev pub MethodRanks : Type 0
MethodRanks = (file : ClassFile) (m : Method) (p : Program) (frames : List (Option Frame)) (blocks : List Block) (forest : Forest) → IsShaped file m p frames blocks forest
    → IsRanked (flow_of p frames blocks forest) (length blocks)
