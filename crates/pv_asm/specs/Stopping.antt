-- What is answered of a line, and of a listing, that may have no reading.
use Rattle.std.specs.Prelude.{◌≡◌, ℕ, Option, Some, None, Result, Ok, Err}
use Rattle.pv_asm.specs.declared.fault.AsmFault.{AsmFault}
use Rattle.pv_asm.specs.declared.fault.AsmFault.TheVariants as fault
use Rattle.pv_asm.specs.declared.stop.Stop.{Stop}
use Rattle.pv_asm.specs.declared.stop.Stop.TheVariants.{NoReading, Memory}

-- there is no value, unless memory ran out
abbrev pub Lacks : {A : Type 0} → Stop → Option A → Type 0
Lacks NoReading o = o ≡ None
Lacks Memory o = Unit {0}

-- what a function returned, seen by view, is the value, unless memory ran out
abbrev pub Yields : {X A : Type 0} → (X → A) → Result X Stop → Option A → Type 0
Yields view (Ok x) o = o ≡ Some (view x)
Yields view (Err s) o = Lacks s o

-- the line of this number has no reading, unless memory ran out
abbrev pub Faults : {A : Type 0} → AsmFault → Result A ℕ → Type 0
Faults (fault.Line n) read = read ≡ Err n
Faults fault.Memory read = Unit {0}

-- what a function returned, seen by view, is what is read, unless memory ran out
abbrev pub Gives : {X A : Type 0} → (X → A) → Result X AsmFault → Result A ℕ → Type 0
Gives view (Ok x) read = read ≡ Ok (view x)
Gives view (Err f) read = Faults f read
