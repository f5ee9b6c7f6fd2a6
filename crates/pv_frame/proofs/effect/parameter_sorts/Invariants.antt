use Rattle.std.proofs.Common.{◌≡◌, map, take}
use Rattle.pv_frame.specs.Effects.{sort_of_type}
use Rattle.pv_frame.proofs.effect.parameter_sorts.Given as goal

abbrev pub invariant-loop-param : goal.invariant-loop-param
invariant-loop-param l = l.sorts.items ≡ map sort_of_type (take l.param-index l.param-items)
