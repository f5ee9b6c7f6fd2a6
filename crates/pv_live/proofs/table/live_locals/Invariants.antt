use Rattle.pv_live.specs.Marks.{IsTable, unmarked_in}
use Rattle.pv_live.proofs.table.live_locals.Given as goal

abbrev pub invariant-loop-rows : goal.invariant-loop-rows
invariant-loop-rows l = IsTable l.program l.rows.items

abbrev pub decreases-loop-rows : goal.decreases-loop-rows
decreases-loop-rows l = unmarked_in l.rows.items
