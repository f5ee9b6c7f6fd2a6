use Rattle.std.proofs.Common.{◌≡◌, ◌++◌, take}
use Rattle.pv_build.proofs.Words.{param_ops, this_ops}
use Rattle.pv_build.proofs.starting.passed.Given as goal

abbrev pub invariant-loop-j : goal.invariant-loop-j
invariant-loop-j l = l.ops.items ≡ this_ops l.program.instance ++ param_ops 0 (take l.j l.t-items)
