-- Programs: what there is to run of a method (JVMS 2.6, 4.6, 4.7.3).
use Rattle.std.specs.Prelude.{◌≡◌, ℕ, Bool, List, Some, bit_and, ◌==◌, slice_get}
use Rattle.std.specs.List.{AllZip}
use Rattle.pv_value.specs.Descriptors.{IsMethodType}
use Rattle.pv_pool.specs.declared.entry.Entry.{Entry}
use Rattle.pv_class.specs.declared.file.ClassFile.{ClassFile}
use Rattle.pv_class.specs.declared.file.Method.{Method}
use Rattle.pv_class.specs.declared.file.Code.{Code}
use Rattle.pv_insn.specs.declared.insn.Placed.{Placed}
use Rattle.pv_class.specs.declared.file.TheConstants.{ACC_STATIC, ACC_SYNCHRONIZED}
use Rattle.pv_insn.specs.Codes.{IsCode}
use Rattle.pv_frame.specs.declared.used.Use.{Use}
use Rattle.pv_frame.specs.declared.action.Action.{Action}
use Rattle.pv_frame.specs.declared.program.Program.{Program}
use Rattle.pv_frame.specs.Actions.{IsUse, Acts, IsFloatlessMethod}

-- the action at a place
abbrev pub IsAt : Program → ℕ → Action → Type 0
IsAt p k a = slice_get p.actions k ≡ Some a

-- not static (JVMS 4.6)
abbrev pub is_instance : ℕ → Bool
is_instance flags = bit_and flags ACC_STATIC == 0

-- not synchronized (JVMS 4.6)
abbrev pub IsUnsynchronized : ℕ → Type 0
IsUnsynchronized flags = bit_and flags ACC_SYNCHRONIZED ≡ 0

abbrev pub ActsUsing : List Entry → Placed → Use → Action → Type 0
ActsUsing pool placed u a = IsUse pool placed.insn u × Acts pool placed.insn u a

-- an instruction of this pool does this
abbrev pub Does : List Entry → Placed → Action → Type 0
Does pool placed a = (u : Use) × ActsUsing pool placed u a

-- the instructions of a code, and what they do
pub record AreActions (pool : List Entry) (code : Code) (actions : List Action) : Type 0 where
  pub placed : List Placed
  pub spelled : IsCode code.bytes placed
  pub acts : AllZip (Does pool) placed actions

-- the program of a method with a code. It has no exception handlers, isn't synchronized, has no float or double parameter or result, and each of its instructions is accepted.
pub record IsProgramOf (file : ClassFile) (m : Method) (p : Program) : Type 0 where
  pub code : Code
  pub has : m.code ≡ Some code
  pub handlers : code.handlers ≡ 0
  pub unsynchronized : IsUnsynchronized m.flags
  pub desc : IsMethodType m.desc p.desc
  pub floatless : IsFloatlessMethod p.desc
  pub actions : AreActions file.pool code p.actions
  pub instance : p.instance ≡ is_instance m.flags
  pub max_stack : p.max_stack ≡ code.max_stack
  pub max_locals : p.max_locals ≡ code.max_locals
