use Rattle.std.proofs.Common.{take}
use Rattle.pv_loops.specs.Shapes.{AddsSources}
use Rattle.pv_loops.proofs.shape.add_sources.Given as goal

abbrev pub invariant-loop-t : goal.invariant-loop-t
invariant-loop-t l = AddsSources l.initial.sources l.sources l.n (take l.t-index l.targets)
