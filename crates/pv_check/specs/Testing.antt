-- Steps that leave the graph as it is.
use Rattle.std.specs.Prelude.{⊤}
use Rattle.pv_steps.specs.declared.step.Step.{Step}
use Rattle.pv_steps.specs.declared.step.Step.TheVariants as steps

-- it adds no node, and isn't one whose test prepares the graph
abbrev pub LeavesGraph : Step → Type 0
LeavesGraph (steps.Node n o kids) = ⊥
LeavesGraph (steps.Assume p nodes) = ⊥
LeavesGraph s = ⊤
