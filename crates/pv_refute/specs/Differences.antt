-- Tries on which two methods end in different ways.
use Rattle.std.specs.Prelude.{◌≡◌, ◌≢◌, ℕ, ◌≤◌}
use Rattle.pv_value.specs.declared.descriptor.Descriptor.{Descriptor}
use Rattle.pv_value.specs.declared.outcome.Input.{Input}
use Rattle.pv_value.specs.declared.outcome.Outcome.{Outcome}
use Rattle.pv_value.specs.declared.world.World.{World}
use Rattle.pv_class.specs.declared.file.ClassFile.{ClassFile}
use Rattle.pv_class.specs.declared.file.Method.{Method}
use Rattle.pv_frame.specs.declared.program.Program.{Program}
use Rattle.pv_machine.specs.Machine.{Ends, start, after, ended}
use Rattle.pv_refute.specs.declared.refuting.Found.{Found}
use Rattle.pv_refute.specs.declared.refuting.Found.TheVariants.{Differs, Tried}
use Rattle.pv_refute.specs.Tries.{try_world, try_input}

-- two programs of one descriptor, and how many tries of how many steps are made of them
pub record Trial : Type 0 where
  pub first : Program
  pub second : Program
  pub desc : Descriptor
  pub tries : ℕ
  pub steps : ℕ

-- the run of a program from its start ends so within so many steps
abbrev pub EndsWithin : ℕ → Program → World → Input → Outcome → Type 0
EndsWithin steps p w input o = after p w (start p input) steps ≡ ended o

-- both programs end within so many steps, with different outcomes
pub record DifferWithin (steps : ℕ) (first second : Program) (w : World) (input : Input) : Type 0 where
  pub one : Outcome
  pub two : Outcome
  pub first_ends : EndsWithin steps first w input one
  pub second_ends : EndsWithin steps second w input two
  pub apart : one ≢ two

-- .. so they do on try t
abbrev pub DifferOn : Trial → ℕ → Type 0
DifferOn q t = DifferWithin q.steps q.first q.second try_world (try_input q.desc t)

abbrev pub IsTry : Trial → ℕ → Type 0
IsTry q t = (1 ≤ t) × (t ≤ q.tries)

-- t is the first try on which they do
pub record IsFirst (q : Trial) (t : ℕ) : Type 0 where
  pub is_try : IsTry q t
  pub differ : DifferOn q t
  pub least : (s : ℕ) → IsTry q s → DifferOn q s → t ≤ s

-- what is found: the first try on which the two differ and its input, or that they differ on none
abbrev pub IsFound : Trial → Found → Type 0
IsFound q (Differs t input) = IsFirst q t × (input ≡ try_input q.desc t)
IsFound q Tried = (t : ℕ) → IsTry q t → DifferOn q t → ⊥

-- ---- methods

-- two methods of classes both end, with different outcomes
pub record EndApart (file : ClassFile) (m : Method) (other : ClassFile) (p : Method) (w : World) (input : Input) : Type 0 where
  pub one : Outcome
  pub two : Outcome
  pub first : Ends file m w input one
  pub second : Ends other p w input two
  pub apart : one ≢ two
