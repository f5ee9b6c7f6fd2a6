use Rattle.std.proofs.Common.{take}
use Rattle.std.specs.List.{AllByRecursion}
use Rattle.pv_differences.proofs.Calling.{IsNoCall}
use Rattle.pv_differences.proofs.calls.some_call.Given as goal

abbrev pub invariant-loop-placed : goal.invariant-loop-placed
invariant-loop-placed l = AllByRecursion IsNoCall (take l.placed-index l.insns)
