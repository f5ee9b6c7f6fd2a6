use Rattle.std.proofs.Common.{take}
use Rattle.pv_graph.specs.Walks.{In}
use Rattle.pv_pattern.specs.declared.names.NameId.TheVariants.{Constant}
use Rattle.pv_saturate.proofs.choice.has_constant.Given as goal

abbrev pub invariant-loop-name : goal.invariant-loop-name
invariant-loop-name l = In (take l.name-index l.names) (Constant l.j) → ⊥
