-- What readers answer of which memory may run out.
use Rattle.std.specs.Prelude.{◌≡◌, Result, Ok, Err}
use Rattle.pv_format.specs.declared.stopped.Stopped.{Stopped}
use Rattle.pv_format.specs.declared.stopped.Stopped.TheVariants.{Failed, Memory}

-- reading stops so, unless memory ran out
abbrev pub Fails : {F A : Type 0} → Stopped F → Result A F → Type 0
Fails (Failed e) read = read ≡ Err e
Fails Memory read = Unit {0}

-- what a function returned, seen by view, is what is read, unless memory ran out
abbrev pub Gives : {F X A : Type 0} → (X → A) → Result X (Stopped F) → Result A F → Type 0
Gives view (Ok x) read = read ≡ Ok (view x)
Gives view (Err s) read = Fails s read
