use Rattle.std.proofs.Common.{◌≡◌, ◌++◌, take}
use Rattle.pv_frame.proofs.Words.{flat_map, sorts_of, this_sorts}
use Rattle.pv_frame.proofs.flow.passed_to.Given as goal

abbrev pub invariant-loop-param : goal.invariant-loop-param
invariant-loop-param l = l.sorts.items ≡ this_sorts l.program.instance ++ flat_map sorts_of (take l.param-index l.param-items)
