use Rattle.std.proofs.Common.{◌≡◌, ℕ, length, slice_get, unwrap_or}
use Rattle.pv_pattern.specs.Found.{empty_symbol}
use Rattle.pv_saturate.proofs.telling.put_symbol.Given as goal

abbrev pub invariant-loop-k : goal.invariant-loop-k
invariant-loop-k l = record {
  long : length l.symbols.items ≡ l._k;
  same : (t : ℕ) → unwrap_or (slice_get l.symbols.items t) empty_symbol ≡ unwrap_or (slice_get l.initial.symbols.items t) empty_symbol;
}
