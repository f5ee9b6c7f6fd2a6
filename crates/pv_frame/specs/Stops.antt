-- What it says of a method that an instruction has no action; private to this crate.
use Rattle.std.specs.Prelude.{ℕ}
use Rattle.pv_frame.specs.declared.cause.Refused.{Refused}
use Rattle.pv_frame.specs.declared.cause.Refused.TheVariants as refused
use Rattle.pv_frame.specs.declared.stop.Stop.{Stop}
use Rattle.pv_frame.specs.declared.stop.Stop.TheVariants as stop
use Rattle.pv_frame.specs.Causes.{cause}

abbrev pub refused_at : ℕ → Stop → Refused
refused_at at (stop.Cause k) = refused.Cause (cause k at)
refused_at at stop.Memory = refused.Memory
