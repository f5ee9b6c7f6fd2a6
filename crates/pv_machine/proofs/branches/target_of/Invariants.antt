use Rattle.std.proofs.Common.{◌≡◌, drop}
use Rattle.pv_machine.specs.Machine.{target_of}
use Rattle.pv_machine.proofs.branches.target_of.Given as goal

abbrev pub invariant-loop-c : goal.invariant-loop-c
invariant-loop-c l = target_of l.default (drop l.c-index l.cases) l.n ≡ target_of l.default l.cases l.n
