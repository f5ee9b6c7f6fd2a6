use Rattle.std.proofs.Common.{◌≡◌, ℕ, length, slice_get, unwrap_or, pos}
use Rattle.pv_value.specs.declared.number.Num.TheVariants as num
use Rattle.pv_saturate.proofs.telling.put_constant.Given as goal

abbrev pub invariant-loop-k : goal.invariant-loop-k
invariant-loop-k l = record {
  long : length l.constants.items ≡ l._k;
  same : (t : ℕ) → unwrap_or (slice_get l.constants.items t) (num.Int (pos 0)) ≡ unwrap_or (slice_get l.initial.constants.items t) (num.Int (pos 0));
}
