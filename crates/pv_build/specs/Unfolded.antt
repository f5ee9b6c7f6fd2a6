-- The roots of the graphs of methods.
use Rattle.std.specs.Prelude.{pos, ℕ, List, Option, Some, None}
use Rattle.pv_value.specs.declared.descriptor.JType.{JType}
use Rattle.pv_value.specs.declared.descriptor.JType.TheVariants as jtype
use Rattle.pv_frame.specs.declared.program.Program.{Program}
use Rattle.pv_frame.specs.declared.frame.Frame.{Frame}
use Rattle.pv_flow.specs.declared.block.Block.{Block}
use Rattle.pv_loops.specs.declared.forest.Forest.{Forest}
use Rattle.pv_graph.specs.declared.node.Op.TheVariants as op
use Rattle.pv_graph.specs.Unfold.{UnfoldsAs}
use Rattle.pv_graph.specs.Graphs.{Graph, form_at}
use Rattle.pv_equations.specs.Exp.{Exp, Over, NoExp}
use Rattle.pv_equations.specs.Flow.{Flow}
use Rattle.pv_equations.specs.Equations.{Values, AreEquations, form_of, unit_exp}
use Rattle.pv_equations.specs.Root.{root_of}
use Rattle.pv_runs.specs.Methods.{flow_of}

-- a value of the type of the result, for a method that doesn't return: the root must have one
abbrev pub none_of : Option JType → Exp
none_of None = unit_exp
none_of (Some jtype.J) = Over (op.Long (pos 0)) NoExp
none_of (Some jtype.A) = Over op.Null NoExp
none_of (Some t) = Over (op.Int (pos 0)) NoExp

-- whatever solves the equations of a flow, the node unfolds as their root, for a result of this type
abbrev pub IsUnfolded : Graph → Flow → Option JType → ℕ → Type 0
IsUnfolded g f result r = (v : Values) → AreEquations f v → UnfoldsAs (form_at g.nodes) (form_of f v) r (root_of f v (none_of result))

-- .. of a method's flow
abbrev pub IsBuilt : Graph → Program → List (Option Frame) → List Block → Forest → ℕ → Type 0
IsBuilt g p frames blocks forest r = IsUnfolded g (flow_of p frames blocks forest) p.desc.result r
