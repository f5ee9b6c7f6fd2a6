use Rattle.std.proofs.Common.{◌≡◌, ℕ, length, Some, slice_get}
use Rattle.pv_build.proofs.Words.{Grows, Cell}
use Rattle.pv_build.proofs.Started.{StartCell}
use Rattle.pv_build.proofs.starting.first_cells.Given as goal

abbrev pub invariant-loop-k : goal.invariant-loop-k
invariant-loop-k l = record {
  grows : Grows l.fn.g l.g;
  count : length l.cells.items ≡ l.k;
  each : (i : ℕ) (c : Cell) → slice_get l.cells.items i ≡ Some c → StartCell l.g l.ops l.sorts i c;
}
