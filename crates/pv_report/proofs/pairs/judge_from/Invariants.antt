use Rattle.std.proofs.Common.{◌≤◌}
use Rattle.pv_pieces.specs.Cut.{between}
use Rattle.pv_report.specs.Pieces.{AreJudged}
use Rattle.pv_report.specs.Tables.{IsTableOf}
use Rattle.pv_report.proofs.pairs.judge_from.Given as goal

abbrev pub invariant-loop-place : goal.invariant-loop-place
invariant-loop-place g l = AreJudged l.means l.pair (between l.pair.first.methods l.from l.place) l.judgements × (l.from ≤ l.place) × IsTableOf l.means.limits.axioms l.table
