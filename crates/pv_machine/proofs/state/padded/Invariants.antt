use Rattle.std.proofs.Common.{◌≡◌, ◌++◌, replicate, None}
use Rattle.pv_machine.proofs.state.padded.Given as goal

abbrev pub invariant-loop : goal.invariant-loop
invariant-loop l = l.all.items ≡ l.fn.locals.items ++ replicate l.counter None
