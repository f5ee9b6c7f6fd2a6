-- What there is to answer of a method that has a code: its typed frames, or why it is refused.
use Rattle.std.specs.Prelude.{◌≡◌, ℕ, Some, Result, Ok, Err, slice_get}
use Rattle.std.specs.List.{AllZip, AllByRecursion}
use Rattle.pv_value.specs.declared.descriptor.Descriptor.{Descriptor}
use Rattle.pv_value.specs.Descriptors.{IsMethodType}
use Rattle.pv_pool.specs.Pools.{Refers}
use Rattle.pv_class.specs.declared.file.ClassFile.{ClassFile}
use Rattle.pv_class.specs.declared.file.Method.{Method}
use Rattle.pv_class.specs.declared.file.Code.{Code}
use Rattle.pv_insn.specs.declared.insn.Placed.{Placed}
use Rattle.pv_insn.specs.Codes.{IsCode}
use Rattle.pv_frame.specs.declared.used.Use.{Use}
use Rattle.pv_frame.specs.declared.cause.Cause.{Cause}
use Rattle.pv_frame.specs.declared.cause.Refused.{Refused}
use Rattle.pv_frame.specs.declared.cause.Refused.TheVariants as refused
use Rattle.pv_frame.specs.declared.typed.Typed.{Typed}
use Rattle.pv_frame.specs.Actions.{IsUse}
use Rattle.pv_frame.specs.Programs.{Does}
use Rattle.pv_frame.specs.Frames.{IsInferred}
use Rattle.pv_frame.specs.Causes.{IsRefused, IsAccepted}

-- ---- the methods that may be asked for

-- the method at this place of the class has a code and a descriptor
pub record HasCode (file : ClassFile) (place : ℕ) : Type 0 where
  pub method : Method
  pub there : slice_get file.methods place ≡ Some method
  pub code : Code
  pub has : method.code ≡ Some code
  pub desc : Descriptor
  pub typed : IsMethodType method.desc desc

-- the entries of its constant pool refer to entries of the right kinds (JVMS 4.4)
abbrev pub HasReferences : ClassFile → Type 0
HasReferences file = AllByRecursion (Refers file.pool) file.pool

-- ---- what there is to answer

-- these are the instructions of the method, what they name, its program, and the frames of that
pub record IsTyping (file : ClassFile) (m : Method) (t : Typed) : Type 0 where
  pub accepted : IsAccepted file m t.program
  pub code : Code
  pub has : m.code ≡ Some code
  pub spelled : IsCode code.bytes t.code
  pub uses : AllZip (λ (p : Placed) (u : Use). IsUse file.pool p.insn u) t.code t.uses
  pub acts : AllZip (Does file.pool) t.code t.program.actions
  pub inferred : IsInferred t.program t.frames

-- its typed frames where it is accepted, else its cause
abbrev pub IsAnswer : ClassFile → Method → Result Typed Cause → Type 0
IsAnswer file m (Ok t) = IsTyping file m t
IsAnswer file m (Err c) = IsRefused file m c

-- a fact of what a call said, unless it ran out of memory
abbrev pub Said : Result Typed Refused → (Result Typed Cause → Type 0) → Type 0
Said (Ok t) P = P (Ok t)
Said (Err (refused.Cause c)) P = P (Err c)
Said (Err refused.Memory) P = Unit {0}

-- what is said of the method at a place is its answer
abbrev pub Answers : ClassFile → ℕ → Result Typed Refused → Type 0
Answers file place result = (m : Method) → slice_get file.methods place ≡ Some m → Said result (IsAnswer file m)

-- no other answer is right
abbrev pub IsOnly : ClassFile → Method → Result Typed Cause → Type 0
IsOnly file m said = (other : Result Typed Cause) → IsAnswer file m other → said ≡ other

abbrev pub AnswersOnly : ClassFile → ℕ → Result Typed Refused → Type 0
AnswersOnly file place result = (m : Method) → slice_get file.methods place ≡ Some m → Said result (IsOnly file m)
