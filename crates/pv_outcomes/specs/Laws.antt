-- The law of a method's outcomes.
use Rattle.std.specs.Prelude.{◌≡◌, ◌↔◌, ℕ, ◌<◌, List, Option, Some}
use Rattle.std.specs.List.{AllByRecursion}
use Rattle.pv_value.specs.declared.world.World.{World}
use Rattle.pv_value.specs.declared.outcome.Input.{Input}
use Rattle.pv_value.specs.declared.outcome.Outcome.{Outcome}
use Rattle.pv_value.specs.declared.outcome.Val.TheVariants as val
use Rattle.pv_value.specs.Worlds.{IsWorld}
use Rattle.pv_value.specs.Inputs.{Fits}
use Rattle.pv_class.specs.declared.file.ClassFile.{ClassFile}
use Rattle.pv_class.specs.declared.file.Method.{Method}
use Rattle.pv_class.specs.declared.file.Code.{Code}
use Rattle.pv_frame.specs.declared.program.Program.{Program}
use Rattle.pv_frame.specs.declared.frame.Frame.{Frame}
use Rattle.pv_flow.specs.declared.block.Block.{Block}
use Rattle.pv_loops.specs.declared.forest.Forest.{Forest}
use Rattle.pv_machine.specs.Machine.{Ends}
use Rattle.pv_denote.specs.Denote.{Index}
use Rattle.pv_denote.specs.Meaning.{Value}
use Rattle.pv_graph.specs.Unfold.{UnfoldsAs}
use Rattle.pv_graph.specs.Graphs.{Graph, form_at}
use Rattle.pv_equations.specs.Exp.{Exp}
use Rattle.pv_equations.specs.Equations.{Values, form_of, AreEquations}
use Rattle.pv_equations.specs.Root.{root_of}
use Rattle.pv_runs.specs.Methods.{flow_of, IsShaped}

-- in a well-formed world, and for an input that fits: a node that unfolds as the root of a method's equations has an outcome as its value
-- exactly where the method ends with it. The numbers of the method's code are bytes, so that it has one program
abbrev pub MethodConverts : Type 0
MethodConverts = (file : ClassFile) (m : Method) (p : Program) (frames : List (Option Frame)) (blocks : List Block) (forest : Forest) → IsShaped file m p frames blocks forest
    → ((code : Code) → m.code ≡ Some code → AllByRecursion (λ b. b < 256) code.bytes)
    → (v : Values) → AreEquations (flow_of p frames blocks forest) v
    → (g : Graph) (r : ℕ) (d : Exp) → UnfoldsAs (form_at g.nodes) (form_of (flow_of p frames blocks forest) v) r (root_of (flow_of p frames blocks forest) v d)
    → (w : World) (x : Input) → IsWorld w → Fits p.desc x → (i : Index) (o : Outcome) → Value g w x r i (val.End o) ↔ Ends file m w x o
