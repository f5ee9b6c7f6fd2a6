use Rattle.pv_live.specs.Marks.{IsMarked, Marks}
use Rattle.pv_live.proofs.Rows.{Below}
use Rattle.pv_live.proofs.row.join.Given as goal

abbrev pub invariant-loop-local : goal.invariant-loop-local
invariant-loop-local l = Marks (Below (IsMarked l.other) l.local) l.fn.row l.row
