-- What the conversion of a method gives: the root of its graph, or why it has none.
use Rattle.std.specs.Prelude.{◌≡◌, ◌⊎◌, ℕ, ◌≤◌, List, length, Option, Some, slice_get, Result, Ok, Err}
use Rattle.pv_class.specs.declared.file.ClassFile.{ClassFile}
use Rattle.pv_class.specs.declared.file.Method.{Method}
use Rattle.pv_frame.specs.declared.cause.Cause.{Cause}
use Rattle.pv_frame.specs.declared.cause.Refused.{Refused}
use Rattle.pv_frame.specs.declared.cause.Refused.TheVariants as refused
use Rattle.pv_frame.specs.declared.program.Program.{Program}
use Rattle.pv_frame.specs.declared.frame.Frame.{Frame}
use Rattle.pv_frame.specs.Causes.{IsAccepted, IsRefused}
use Rattle.pv_live.specs.Needed.{AreNeeded}
use Rattle.pv_flow.specs.declared.block.Block.{Block}
use Rattle.pv_flow.specs.declared.flow.TheConstants.{MOST_BLOCKS}
use Rattle.pv_loops.specs.declared.forest.Forest.{Forest}
use Rattle.pv_graph.specs.Graphs.{Graph}
use Rattle.pv_runs.specs.Methods.{IsShaped}
use Rattle.pv_layout.specs.Structure.{MeetsShape}
use Rattle.pv_build.specs.Unfolded.{IsBuilt}

-- ---- why a method is refused

-- the method has typed frames, and its program isn't structured for this cause
pub record IsUnstructured (file : ClassFile) (m : Method) (c : Cause) : Type 0 where
  pub program : Program
  pub accepted : IsAccepted file m program
  pub meets : MeetsShape program c

-- for a cause of its code or of its blocks
abbrev pub Meets : ClassFile → Method → Cause → Type 0
Meets file m cause = IsRefused file m cause ⊎ IsUnstructured file m cause

-- ---- the root of a method

-- a method that isn't refused: its program, the frames that are needed, its blocks and the forest of their loops
pub record Form (file : ClassFile) (m : Method) : Type 0 where
  pub program : Program
  pub frames : List (Option Frame)
  pub blocks : List Block
  pub forest : Forest
  pub accepted : IsAccepted file m program
  pub needed : AreNeeded program frames
  pub shaped : IsShaped file m program frames blocks forest
  pub few : length blocks ≤ MOST_BLOCKS

-- the node unfolds as the root of the method's equations
pub record IsRootOf (g : Graph) (root : ℕ) (file : ClassFile) (m : Method) : Type 0 where
  pub form : Form file m
  pub built : IsBuilt g form.program form.frames form.blocks form.forest root

-- ---- the conversion

-- a root, or the cause for which there is none
abbrev pub Converts : Graph → ClassFile → Method → Result ℕ Refused → Type 0
Converts g file m (Ok root) = IsRootOf g root file m
Converts g file m (Err (refused.Cause cause)) = Meets file m cause
Converts g file m (Err refused.Memory) = Unit {0}

-- so it is for the method at a place
abbrev pub ConvertsAt : Graph → ClassFile → ℕ → Result ℕ Refused → Type 0
ConvertsAt g file place result = (m : Method) → slice_get file.methods place ≡ Some m → Converts g file m result
