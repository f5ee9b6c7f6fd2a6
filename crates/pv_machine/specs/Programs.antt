-- What is answered of the method at a place of a class.
use Rattle.std.specs.Prelude.{◌≡◌, ◌⊎◌, ℕ, Some, Result, Err, slice_get}
use Rattle.pv_class.specs.declared.file.ClassFile.{ClassFile}
use Rattle.pv_class.specs.declared.file.Method.{Method}
use Rattle.pv_frame.specs.declared.cause.Cause.{Cause}
use Rattle.pv_frame.specs.declared.cause.Refused.{Refused}
use Rattle.pv_frame.specs.declared.cause.Refused.TheVariants as refused
use Rattle.pv_frame.specs.declared.program.Program.{Program}
use Rattle.pv_frame.specs.Causes.{IsAccepted, IsRefused}

-- the method there is accepted, and this is its program
abbrev pub IsAcceptedAt : ClassFile → ℕ → Program → Type 0
IsAcceptedAt file place p = (m : Method) → slice_get file.methods place ≡ Some m → IsAccepted file m p

-- the method there is refused for this cause
abbrev pub IsRefusedAt : ClassFile → ℕ → Cause → Type 0
IsRefusedAt file place c = (m : Method) → slice_get file.methods place ≡ Some m → IsRefused file m c

-- it is refused so, unless memory ran out
abbrev pub RefusesAs : {A : Type 0} → Cause → Result A Refused → Type 0
RefusesAs c result = (result ≡ Err (refused.Cause c)) ⊎ (result ≡ Err refused.Memory)
