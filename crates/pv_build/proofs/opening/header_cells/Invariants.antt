use Rattle.std.proofs.Common.{◌≡◌, ℕ, length, Some, slice_get}
use Rattle.pv_build.proofs.Words.{Cell, IsHeaderCell}
use Rattle.pv_build.proofs.opening.header_cells.Given as goal

abbrev pub invariant-loop-i : goal.invariant-loop-i
invariant-loop-i l = record {
  size : length l.made.items ≡ l.i;
  each : (i : ℕ) (d : Cell) → slice_get l.made.items i ≡ Some d → IsHeaderCell l.nodes l.part l.cells i d;
}
