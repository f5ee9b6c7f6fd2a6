use Rattle.std.proofs.Common.{◌≡◌, replicate}
use Rattle.pv_build.specs.declared.method.Stage.TheVariants as stage
use Rattle.pv_build.proofs.building.no_loops.Given as goal

abbrev pub invariant-loop : goal.invariant-loop
invariant-loop l = l.loops.items ≡ replicate l.counter stage.Ahead
