use Rattle.std.proofs.Common.{◌≡◌, ◌+◌, ◌≤◌, false, length}
use Rattle.pv_live.specs.Marks.{IsTable, IsDone, unmarked_in}
use Rattle.pv_live.proofs.Tables.{one_if}
use Rattle.pv_live.proofs.table.sweep.Given as goal

abbrev pub invariant-loop-place : goal.invariant-loop-place
invariant-loop-place l = record {
  low : l.place ≤ length l.program.actions;
  table : IsTable l.program l.rows.items;
  fewer : unmarked_in l.rows.items + one_if l.marked ≤ unmarked_in l.initial.rows.items;
  done : l.marked ≡ false → IsDone l.program l.rows.items l.place;
}

abbrev pub decreases-loop-place : goal.decreases-loop-place
decreases-loop-place l = l.place
