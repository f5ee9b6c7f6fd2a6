use Rattle.std.proofs.Common.{◌≡◌, ℕ, length, Some, slice_get}
use Rattle.pv_build.proofs.Words.{IsFlatOrOut, GrowsBy, Cell, IsCellOut}
use Rattle.pv_build.proofs.taking.cells_out.Given as goal

abbrev pub invariant-loop-cell : goal.invariant-loop-cell
invariant-loop-cell l = record {
  grows : GrowsBy (IsFlatOrOut l.c.depth) l.fn.g l.g;
  count : length l.outs.items ≡ l.cell-index;
  each : (i : ℕ) (x y : Cell) → slice_get l.cells i ≡ Some x → slice_get l.outs.items i ≡ Some y → IsCellOut l.fn.g l.c l.g x y;
}
