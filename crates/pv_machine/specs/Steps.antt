-- How the code's steps stand for those of the definition.
use Rattle.std.specs.Prelude.{◌≡◌, ◌<◌, ℕ, drop, length, Option, Some, None}
use Rattle.pv_value.specs.declared.world.World.{World}
use Rattle.pv_value.specs.declared.outcome.Input.{Input}
use Rattle.pv_value.specs.Inputs.{Fits}
use Rattle.pv_value.specs.Worlds.{IsWorld}
use Rattle.pv_class.specs.declared.file.ClassFile.{ClassFile}
use Rattle.pv_class.specs.declared.file.Method.{Method}
use Rattle.pv_value.specs.declared.outcome.Outcome.{Outcome}
use Rattle.pv_frame.specs.declared.action.Action.{Action}
use Rattle.pv_frame.specs.declared.action.Action.TheVariants as act
use Rattle.pv_frame.specs.declared.program.Program.{Program}
use Rattle.pv_frame.specs.Programs.{IsAt}
use Rattle.pv_machine.specs.InMemory.{StateInMemory}
use Rattle.pv_machine.specs.Machine.{State, Now, running, ended, start, perform, after, IsProgram}

-- a state, or the outcome with which the method has ended
abbrev pub now_of : State → Option Outcome → Now
now_of s None = running s
now_of s (Some o) = ended o

-- a state without its topmost operands
abbrev pub below : ℕ → State → State
below taken s = record s { stack = drop taken s.stack }

-- ---- out of memory

-- an instruction that neither calls, nor asks for a type, nor accesses a field, nor writes the heap
abbrev pub IsQuiet : Action → Type 0
IsQuiet (act.Call d f) = ⊥
IsQuiet (act.CallOn d f) = ⊥
IsQuiet (act.GetStatic t f) = ⊥
IsQuiet (act.PutStatic t f) = ⊥
IsQuiet (act.GetField t f) = ⊥
IsQuiet (act.PutField t f) = ⊥
IsQuiet (act.StoreElement k) = ⊥
IsQuiet act.StoreRef = ⊥
IsQuiet (act.Cast class) = ⊥
IsQuiet (act.InstanceOf class) = ⊥
IsQuiet _ = Unit {0}

-- an instruction leaves more numbers on the operand stack than there is memory for
abbrev pub IsOverfull : Program → World → StateInMemory → Action → Type 0
IsOverfull p w s a = (t : State) × (perform p w s.state a ≡ running t) × (s.room < length t.stack)

-- the instruction at a place, if there is one, is such
abbrev pub IsQuietAt : Program → ℕ → Type 0
IsQuietAt p at = (a : Action) → IsAt p at a → IsQuiet a

-- ---- runs

-- a run of a method with typed frames reaches this state
pub record IsReached (p : Program) (w : World) (s : State) : Type 0 where
  pub file : ClassFile
  pub method : Method
  pub program : IsProgram file method p
  pub world : IsWorld w
  pub input : Input
  pub fits : Fits p.desc input
  pub steps : ℕ
  pub run : after p w (start p input) steps ≡ running s

-- within n steps a method has ended with this outcome, or with none
abbrev pub HasEndedAfter : Program → World → Input → ℕ → Option Outcome → Type 0
HasEndedAfter p w input n (Some o) = after p w (start p input) n ≡ ended o
HasEndedAfter p w input n None = (s : State) × (after p w (start p input) n ≡ running s)
