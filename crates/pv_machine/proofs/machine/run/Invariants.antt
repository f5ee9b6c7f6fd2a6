use Rattle.std.proofs.Common.{◌≡◌}
use Rattle.pv_machine.specs.Machine.{running, start, after}
use Rattle.pv_machine.proofs.machine.run.Given as goal

abbrev pub invariant-loop : goal.invariant-loop
invariant-loop l = after l.p l.world (start l.p l.input) l.counter ≡ running l.s.state
