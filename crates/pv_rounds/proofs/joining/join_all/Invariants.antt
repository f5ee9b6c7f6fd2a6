use Rattle.std.proofs.Common.{take}
use Rattle.pv_rounds.specs.Joining.{JoinsAll}
use Rattle.pv_rounds.proofs.joining.join_all.Given as goal

abbrev pub invariant-loop-one : goal.invariant-loop-one
invariant-loop-one l = JoinsAll l.initial.classes l.classes (take l.one-index l.owed)
