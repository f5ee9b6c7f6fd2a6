use Rattle.std.proofs.Common.{◌≡◌, take}
use Rattle.pv_lemmas.specs.Lemmas.{settled_from}
use Rattle.pv_lemmas.proofs.vars.settled_variables.Given as goal

abbrev pub invariant-loop-j : goal.invariant-loop-j
invariant-loop-j l = l.settled.items ≡ settled_from 0 (take l.j l.vars)
