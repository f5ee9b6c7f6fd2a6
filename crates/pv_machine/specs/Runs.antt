-- Runs of programs with typed frames: the machine is never stuck but at a call that isn't in the table.
use Rattle.std.specs.Prelude.{◌≡◌, ◌⊎◌, ℕ, suc, ◌<◌, map, List, ◌∷◌, Option, Some, None}
use Rattle.std.specs.List.{AllByRecursion}
use Rattle.pv_value.specs.declared.number.Num.{Num}
use Rattle.pv_value.specs.declared.number.Num.TheVariants as num
use Rattle.pv_value.specs.declared.name.Sym.{Sym}
use Rattle.pv_value.specs.declared.world.World.{World}
use Rattle.pv_value.specs.declared.outcome.Input.{Input}
use Rattle.pv_value.specs.declared.outcome.Outcome.{Outcome}
use Rattle.pv_value.specs.Inputs.{Fits}
use Rattle.pv_value.specs.Worlds.{IsWorld, reply}
use Rattle.pv_class.specs.declared.file.ClassFile.{ClassFile}
use Rattle.pv_class.specs.declared.file.Method.{Method}
use Rattle.pv_class.specs.declared.file.Code.{Code}
use Rattle.pv_frame.specs.declared.action.Action.{Action}
use Rattle.pv_frame.specs.declared.action.Action.TheVariants as act
use Rattle.pv_frame.specs.Stacks.{popped}
use Rattle.pv_frame.specs.Effects.{sort_of, sort_of_local, takes}
use Rattle.pv_frame.specs.declared.program.Program.{Program}
use Rattle.pv_frame.specs.Programs.{IsAt}
use Rattle.pv_frame.specs.declared.frame.Frame.{Frame}
use Rattle.pv_frame.specs.Frames.{Flows, IsFrameAt}
use Rattle.pv_machine.specs.Machine.{State, Now, running, ended, start, after, performed, IsProgram, Ends}

-- the sorts of what a state holds
abbrev pub frame_of : State → Frame
frame_of s = record { stack = map sort_of s.stack; locals = map sort_of_local s.locals }

-- a state is at a frame: its stack has these sorts, and its locals have those that are known
pub record IsTypedState (frames : List (Option Frame)) (s : State) : Type 0 where
  pub frame : Frame
  pub there : IsFrameAt frames s.at frame
  pub flows : Flows (frame_of s) frame

-- an action with these operands calls under this symbol, which it doesn't on a receiver that is null
abbrev pub Calls : Action → List Num → Sym → Type 0
Calls (act.Call d f) args sym = sym ≡ f
Calls (act.CallOn d f) (num.Ref (suc r) ∷ args) sym = sym ≡ f
Calls a args sym = ⊥

-- a call that isn't in the table, with its operands on the stack
pub record Waits (p : Program) (w : World) (s : State) : Type 0 where
  pub action : Action
  pub sym : Sym
  pub at : IsAt p s.at action
  pub operands : List Num × List Num
  pub popped : popped sort_of (takes action) s.stack ≡ Some operands
  pub calls : Calls action operands.0 sym
  pub unanswered : reply w sym s.heap operands.0 ≡ None

-- the instruction at the place of a state does something
pub record Proceeds (p : Program) (w : World) (s : State) : Type 0 where
  pub action : Action
  pub at : IsAt p s.at action
  pub now : Now
  pub does : performed p w s action ≡ Some now

-- a state that a run of a program reaches is never stuck
abbrev pub NeverStuck : Type 0
NeverStuck =
    (file : ClassFile) (m : Method) (p : Program) → IsProgram file m p → (w : World) → IsWorld w → (input : Input) → Fits p.desc input →
    (n : ℕ) (s : State) → after p w (start p input) n ≡ running s → Proceeds p w s ⊎ Waits p w s

-- a run ends in one way
abbrev pub EndsOnce : Type 0
EndsOnce =
    (p : Program) (w : World) (s : State) (m n : ℕ) (o q : Outcome) → after p w s m ≡ ended o → after p w s n ≡ ended q → o ≡ q

-- a method of a class ends in one way, where its code is of bytes
abbrev pub MethodEndsOnce : Type 0
MethodEndsOnce =
    (file : ClassFile) (m : Method) → ((code : Code) → m.code ≡ Some code → AllByRecursion (λ b. b < 256) code.bytes) → (w : World) (input : Input) (o q : Outcome) → Ends file m w input o → Ends file m w input q → o ≡ q
