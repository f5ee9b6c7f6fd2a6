use Rattle.std.proofs.Common.{◌≡◌, ℕ, length, Some, slice_get}
use Rattle.pv_layout.proofs.Words.{Loop, Writes, IsCarried}
use Rattle.pv_layout.proofs.carrying.slots_carried.Given as goal

abbrev pub invariant-loop-one : goal.invariant-loop-one
invariant-loop-one l = record {
  count : length l.all.items ≡ l.one-index;
  each : (i : ℕ) (w : Writes) → slice_get l.all.items i ≡ Some w → (k : Loop) → slice_get l.fn.forest.loops.items i ≡ Some k → IsCarried l.fn.typed.program l.fn.typed.frames l.fn.flow.blocks l.fn.forest k.header w;
}
