-- The causes that need no look at a method's instructions, and those of a code; private to this crate.
use Rattle.std.specs.Prelude.{◌≡◌, ◌≢◌, ℕ, List, ◌+◌, ◌<◌, ◌≤◌, length, Some}
use Rattle.std.specs.List.{AllByRecursion}
use Rattle.pv_value.specs.declared.descriptor.Descriptor.{Descriptor}
use Rattle.pv_value.specs.Descriptors.{IsMethodType}
use Rattle.pv_pool.specs.Pools.{Refers}
use Rattle.pv_class.specs.declared.file.ClassFile.{ClassFile}
use Rattle.pv_class.specs.declared.file.Method.{Method}
use Rattle.pv_class.specs.declared.file.Code.{Code}
use Rattle.pv_insn.specs.declared.fault.CodeFault.{CodeFault}
use Rattle.pv_insn.specs.declared.fault.CodeFault.TheVariants as fault
use Rattle.pv_frame.specs.declared.inference.TheConstants.{LONGEST_CODE, MOST_SLOTS}
use Rattle.pv_frame.specs.declared.cause.CauseKind.{CauseKind}
use Rattle.pv_frame.specs.declared.cause.CauseKind.TheVariants as kind
use Rattle.pv_frame.specs.declared.cause.Refused.{Refused}
use Rattle.pv_frame.specs.declared.cause.Refused.TheVariants as refused
use Rattle.pv_frame.specs.Actions.{IsFloatlessMethod}
use Rattle.pv_frame.specs.Programs.{IsUnsynchronized}
use Rattle.pv_frame.specs.Causes.{cause}

-- the first five causes don't hold
pub record IsPlain (m : Method) (code : Code) (d : Descriptor) : Type 0 where
  pub handlers : code.handlers ≡ 0
  pub unsynchronized : IsUnsynchronized m.flags
  pub short : length code.bytes ≤ LONGEST_CODE
  pub few : code.max_stack + code.max_locals ≤ MOST_SLOTS
  pub floatless : IsFloatlessMethod d

-- the first of them that holds
abbrev pub IsEarly : Method → Code → Descriptor → CauseKind → Type 0
IsEarly m code d kind.Handler = code.handlers ≢ 0
IsEarly m code d kind.Monitor = (code.handlers ≡ 0) × ¬ IsUnsynchronized m.flags
IsEarly m code d kind.LongCode = (code.handlers ≡ 0) × IsUnsynchronized m.flags × (LONGEST_CODE < length code.bytes)
IsEarly m code d kind.Slots = (code.handlers ≡ 0) × IsUnsynchronized m.flags × (length code.bytes ≤ LONGEST_CODE) × (MOST_SLOTS < code.max_stack + code.max_locals)
IsEarly m code d kind.Float = (code.handlers ≡ 0) × IsUnsynchronized m.flags × (length code.bytes ≤ LONGEST_CODE) × (code.max_stack + code.max_locals ≤ MOST_SLOTS) × ¬ IsFloatlessMethod d
IsEarly m code d _ = ⊥

-- what a fault of a code says of its method
abbrev pub refused_for : CodeFault → Refused
refused_for (fault.Opcode at) = refused.Cause (cause kind.Code at)
refused_for (fault.Truncated at) = refused.Cause (cause kind.Code at)
refused_for (fault.Target at) = refused.Cause (cause kind.Code at)
refused_for (fault.Switch at) = refused.Cause (cause kind.Code at)
refused_for fault.Memory = refused.Memory

-- a method with its code, the bytes of that, and its type, in a class with a well-formed pool
pub record IsCoded (file : ClassFile) (m : Method) (code : Code) (bytes : List ℕ) (d : Descriptor) : Type 0 where
  pub has : m.code ≡ Some code
  pub spelled : bytes ≡ code.bytes
  pub typed : IsMethodType m.desc d
  pub references : AllByRecursion (Refers file.pool) file.pool
