use Rattle.std.specs.Prelude.{map}
use Rattle.pv_live.specs.Marks.{Marks}
use Rattle.pv_live.proofs.Rows.{SoFar}
use Rattle.pv_live.proofs.row.join_cases.Given as goal

abbrev pub invariant-loop-case : goal.invariant-loop-case
invariant-loop-case l = Marks (SoFar l.rows (map (λ c. c.target) l.cases) l.case-index) l.fn.row l.row
