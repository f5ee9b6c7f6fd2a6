-- What is asked of actions: what those of each method's program meet.
use Rattle.std.specs.Prelude.{ℕ}
use Rattle.pv_frame.specs.declared.action.Action.{Action}
use Rattle.pv_frame.specs.declared.action.Action.TheVariants as act
use Rattle.pv_frame.specs.declared.program.Program.{Program}
use Rattle.pv_frame.specs.Programs.{IsAt}
use Rattle.pv_frame.specs.Actions.{IsFloatlessMethod}
use Rattle.pv_runs.specs.Clean.{IsClean}

-- a call has neither floats nor doubles
abbrev pub IsFloatlessCall : Action → Type 0
IsFloatlessCall (act.Call d f) = IsFloatlessMethod d
IsFloatlessCall (act.CallOn d f) = IsFloatlessMethod d
IsFloatlessCall a = Unit {0}

-- an action of a program, as its descriptors say
abbrev pub IsPlain : Action → Type 0
IsPlain a = IsClean a × IsFloatlessCall a

abbrev pub ArePlain : Program → Type 0
ArePlain p = (k : ℕ) (a : Action) → IsAt p k a → IsPlain a
