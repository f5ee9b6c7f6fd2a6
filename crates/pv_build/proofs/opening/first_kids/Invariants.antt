use Rattle.std.proofs.Common.{◌≡◌, ℕ, length, Option, Some, slice_get}
use Rattle.pv_build.proofs.Words.{first_at}
use Rattle.pv_build.proofs.opening.first_kids.Given as goal

abbrev pub invariant-loop-n : goal.invariant-loop-n
invariant-loop-n l = record {
  size : length l.kids.items ≡ l.n;
  each : (s : ℕ) (kid : Option ℕ) → slice_get l.kids.items s ≡ Some kid → kid ≡ first_at l.carried l.entering s;
}
