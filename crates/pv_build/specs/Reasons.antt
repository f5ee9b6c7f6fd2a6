-- When a method is refused: a helper of this crate's contracts.
use Rattle.std.specs.Prelude.{ℕ, Result, Err}
use Rattle.pv_frame.specs.declared.cause.Refused.{Refused}
use Rattle.pv_frame.specs.declared.cause.Refused.TheVariants as refused

-- the fact holds, where a method was refused for a cause
abbrev pub OnRefusal : Result ℕ Refused → Type 0 → Type 0
OnRefusal (Err (refused.Cause c)) P = P
OnRefusal r P = Unit {0}
