-- Counts of failures.
use Rattle.std.specs.Prelude.{ℕ, ◌+◌, ◌-◌, ◌^◌, min, Result, Err}
use Rattle.pv_base.specs.declared.outside.FileFault.{FileFault}
use Rattle.pv_base.specs.declared.outside.FileFault.TheVariants as file

-- one failure more; at its greatest value the count stands still
abbrev pub count_up : ℕ → ℕ
count_up failures = min (failures + 1) (2 ^ 64 - 1)

-- the count after a call: a failure counts, and nothing else
abbrev pub count_failed : {T : Type 0} → ℕ → Result T FileFault → ℕ
count_failed failures (Err file.Failed) = count_up failures
count_failed failures _ = failures
