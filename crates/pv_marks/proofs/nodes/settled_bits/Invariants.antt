use Rattle.std.proofs.Common.{◌≡◌, ◌<◌, ℕ, length, slice_index}
use Rattle.pv_marks.specs.Sweep.{IsMarkBelow}
use Rattle.pv_marks.proofs.nodes.settled_bits.Given as goal

abbrev pub invariant-loop-yes : goal.invariant-loop-yes
invariant-loop-yes l = record { long : length l.marks.items ≡ l.yes-index; each : (n : ℕ) → n < l.yes-index → IsMarkBelow l.graph l.assumed 1 n (slice_index l.marks.items n) }
