use Rattle.std.proofs.Common.{◌≡◌, ℕ, length, slice_get, unwrap_or}
use Rattle.pv_value.specs.declared.heap.Kind.TheVariants as kind
use Rattle.pv_saturate.proofs.telling.put_kind.Given as goal

abbrev pub invariant-loop-k : goal.invariant-loop-k
invariant-loop-k l = record {
  long : length l.kinds.items ≡ l._k;
  same : (t : ℕ) → unwrap_or (slice_get l.kinds.items t) kind.Int ≡ unwrap_or (slice_get l.initial.kinds.items t) kind.Int;
}
