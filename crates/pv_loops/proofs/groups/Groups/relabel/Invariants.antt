use Rattle.pv_loops.specs.Groups.{Relabels}
use Rattle.pv_loops.proofs.groups.Groups.relabel.Given as goal

abbrev pub invariant-loop-k : goal.invariant-loop-k
invariant-loop-k l = Relabels l.initial.self l.self l.moved l.k l.p l.from
