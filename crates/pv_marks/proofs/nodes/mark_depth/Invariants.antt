use Rattle.std.proofs.Common.{◌≡◌, ◌+◌, ◌<◌, ◌≤◌, ℕ, List, vec_len, slice_index}
use Rattle.pv_marks.specs.Sweep.{IsMarkBelow}
use Rattle.pv_marks.proofs.nodes.mark_depth.Given as goal

abbrev pub invariant-loop-n : goal.invariant-loop-n
invariant-loop-n l = record {
  long : vec_len l.marks ≡ vec_len l.initial.marks;
  done : (assumed : List ℕ) (m : ℕ) → m < l.n → IsMarkBelow l.graph assumed l.d m (slice_index l.initial.marks.items m) → IsMarkBelow l.graph assumed (l.d + 1) m (slice_index l.marks.items m);
  rest : (m : ℕ) → l.n ≤ m → slice_index l.marks.items m ≡ slice_index l.initial.marks.items m;
}
