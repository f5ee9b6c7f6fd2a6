use Rattle.std.proofs.Common.{◌≡◌, ℕ, length, Some, slice_get}
use Rattle.pv_build.proofs.Words.{Grows, Cell}
use Rattle.pv_build.proofs.Stating.{EnterCell}
use Rattle.pv_build.proofs.entering.cells.Given as goal

abbrev pub invariant-loop-i : goal.invariant-loop-i
invariant-loop-i l = record {
  grows : Grows l.fn.g l.g;
  count : length l.cells.items ≡ l.i;
  each : (i : ℕ) (c : Cell) → slice_get l.cells.items i ≡ Some c → EnterCell l.fn.g l.given l.part l.sorts l.g i c;
}
