use Rattle.std.proofs.Common.{◌≡◌, ℕ, length, Some, slice_get}
use Rattle.pv_layout.proofs.Words.{Block, Writes, IsWritten}
use Rattle.pv_layout.proofs.carrying.all_written.Given as goal

abbrev pub invariant-loop-block : goal.invariant-loop-block
invariant-loop-block l = record {
  count : length l.all.items ≡ l.block-index;
  each : (n : ℕ) (w : Writes) → slice_get l.all.items n ≡ Some w → (b : Block) → slice_get l.blocks n ≡ Some b → IsWritten l.typed.program l.typed.frames b w;
}
