use Rattle.pv_live.proofs.Rows.{AreBefore}
use Rattle.pv_live.proofs.row.live_before.Given as goal

abbrev pub invariant-loop-local : goal.invariant-loop-local
invariant-loop-local l = AreBefore l.action l.before l.fn.after.items l.row.items l.local
