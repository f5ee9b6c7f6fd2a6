use Rattle.std.proofs.Common.{◌≡◌, ◌++◌, drop}
use Rattle.pv_machine.proofs.Words.{flat_map, locals_of, passed}
use Rattle.pv_machine.proofs.state.passed_locals.Given as goal

abbrev pub invariant-loop-n : goal.invariant-loop-n
invariant-loop-n l = l.locals.items ++ flat_map locals_of (drop l.n-index l.n-items) ≡ flat_map locals_of (passed l.instance l.input)
