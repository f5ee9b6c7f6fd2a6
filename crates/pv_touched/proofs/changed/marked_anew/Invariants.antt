use Rattle.pv_touched.specs.Far.{HaveMarks}
use Rattle.pv_touched.proofs.changed.marked_anew.Given as goal

abbrev pub invariant-loop-class : goal.invariant-loop-class
invariant-loop-class l = HaveMarks l.class l.since l.changed.items
