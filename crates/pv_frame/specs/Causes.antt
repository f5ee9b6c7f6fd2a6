-- Why a method is refused: the causes in their order, each with the address of its instruction.
use Rattle.std.specs.Prelude.{◌≡◌, ◌≢◌, ◌⊎◌, ℕ, ◌+◌, ◌<◌, ◌≤◌, ◌&&◌, nat_le, if◌then◌else◌, List, [], ◌∷◌, ◌++◌, length, Option, Some, None, IsTrue}
use Rattle.std.specs.List.{AllByRecursion}
use Rattle.pv_value.specs.declared.descriptor.JType.{JType}
use Rattle.pv_value.specs.declared.descriptor.Descriptor.{Descriptor}
use Rattle.pv_value.specs.Descriptors.{IsFieldType, IsMethodType}
use Rattle.pv_value.specs.declared.receiver.Form.{Form}
use Rattle.pv_pool.specs.declared.entry.Entry.{Entry}
use Rattle.pv_pool.specs.declared.constant.Constant.{Constant}
use Rattle.pv_pool.specs.declared.constant.Constant.TheVariants as constant
use Rattle.pv_pool.specs.declared.constant.Member.{Member}
use Rattle.pv_class.specs.declared.file.ClassFile.{ClassFile}
use Rattle.pv_class.specs.declared.file.Method.{Method}
use Rattle.pv_class.specs.declared.file.Code.{Code}
use Rattle.pv_insn.specs.declared.insn.Insn.{Insn}
use Rattle.pv_insn.specs.declared.insn.Insn.TheVariants as insn
use Rattle.pv_insn.specs.declared.insn.Placed.{Placed}
use Rattle.pv_insn.specs.declared.fault.CodeFault.{CodeFault}
use Rattle.pv_insn.specs.declared.fault.CodeFault.TheVariants as fault
use Rattle.pv_insn.specs.Codes.{IsCode}
use Rattle.pv_insn.specs.Faults.{IsBad}
use Rattle.pv_frame.specs.declared.inference.TheConstants.{LONGEST_CODE, MOST_SLOTS}
use Rattle.pv_frame.specs.declared.used.Use.{Use}
use Rattle.pv_frame.specs.declared.used.Use.TheVariants as used
use Rattle.pv_frame.specs.declared.cause.CauseKind.{CauseKind}
use Rattle.pv_frame.specs.declared.cause.CauseKind.TheVariants as kind
use Rattle.pv_frame.specs.declared.cause.Cause.{Cause}
use Rattle.pv_frame.specs.declared.program.Program.{Program}
use Rattle.pv_frame.specs.Actions.{form_rows, row_of, loads_narrow, loads_wide, names_class, use_of, IsFloatless, IsFloatlessMethod, MayName}
use Rattle.pv_frame.specs.Programs.{IsUnsynchronized, IsProgramOf}
use Rattle.pv_frame.specs.Frames.{HasFrames}

-- ---- causes of instructions

-- instructions that aren't accepted, whatever they name: the first and the last opcode, and the cause
abbrev pub refused_rows : List (ℕ × ℕ × CauseKind)
refused_rows =
    (11, 15, kind.Float)  -- fconst_0 to dconst_1
    ∷ (23, 24, kind.Float)  -- fload, dload, also after wide
    ∷ (34, 41, kind.Float)  -- fload_0 to dload_3
    ∷ (48, 49, kind.Float)  -- faload, daload
    ∷ (56, 57, kind.Float)  -- fstore, dstore, also after wide
    ∷ (67, 74, kind.Float)  -- fstore_0 to dstore_3
    ∷ (81, 82, kind.Float)  -- fastore, dastore
    ∷ (98, 99, kind.Float)  -- fadd, dadd
    ∷ (102, 103, kind.Float)  -- fsub, dsub
    ∷ (106, 107, kind.Float)  -- fmul, dmul
    ∷ (110, 111, kind.Float)  -- fdiv, ddiv
    ∷ (114, 115, kind.Float)  -- frem, drem
    ∷ (118, 119, kind.Float)  -- fneg, dneg
    ∷ (134, 135, kind.Float)  -- i2f, i2d
    ∷ (137, 144, kind.Float)  -- l2f to d2f
    ∷ (149, 152, kind.Float)  -- fcmpl to dcmpg
    ∷ (174, 175, kind.Float)  -- freturn, dreturn
    ∷ (168, 169, kind.Subroutine)  -- jsr, and ret, also after wide
    ∷ (201, 201, kind.Subroutine)  -- jsr_w
    ∷ (186, 186, kind.Dynamic)  -- invokedynamic
    ∷ (187, 189, kind.Allocation)  -- new, newarray, anewarray
    ∷ (197, 197, kind.Allocation)  -- multianewarray
    ∷ (194, 195, kind.Monitor)  -- monitorenter, monitorexit
    ∷ []

abbrev pub refused_in : List (ℕ × ℕ × CauseKind) → ℕ → Option CauseKind
refused_in [] opcode = None
refused_in (row ∷ rows) opcode = if nat_le row.0 opcode && nat_le opcode row.1 then Some row.2 else refused_in rows opcode

abbrev pub refused_by : ℕ → Option CauseKind
refused_by opcode = refused_in refused_rows opcode

-- a field descriptor of a float or a double, or a method descriptor with one
abbrev pub HasFloatType : List ℕ → Type 0
HasFloatType text = ((t : JType) × IsFieldType text t × ¬ IsFloatless t) ⊎ ((d : Descriptor) × IsMethodType text d × ¬ IsFloatlessMethod d)

-- a Float or a Double; a member whose descriptor has a float or a double
abbrev pub NamesFloat : Use → Type 0
NamesFloat (used.Constant constant.Float) = Unit {0}
NamesFloat (used.Constant constant.Double) = Unit {0}
NamesFloat (used.Member m) = HasFloatType m.sym.desc
NamesFloat _ = ⊥

-- a Fieldref with a field descriptor
abbrev pub IsField : Member → Type 0
IsField m = (m.kind ≡ 9) × ((t : JType) × IsFieldType m.sym.desc t)

-- a Methodref or InterfaceMethodref with a method descriptor
abbrev pub IsStatic : Member → Type 0
IsStatic m = ((m.kind ≡ 10) ⊎ (m.kind ≡ 11)) × ((d : Descriptor) × IsMethodType m.sym.desc d)

-- what a call of this form may name, with a method descriptor
abbrev pub IsCalledBy : Form → Member → Type 0
IsCalledBy form m = MayName form m.kind × ((d : Descriptor) × IsMethodType m.sym.desc d)

-- getstatic to putfield
abbrev pub AccessesFields : ℕ → Type 0
AccessesFields opcode = (178 ≤ opcode) × (opcode ≤ 181)

-- what the standard allows: ldc and ldc_w of a constant that takes one index, ldc2_w of one that takes two or is dynamic (JVMS 6.5.ldc, 6.5.ldc2_w)
abbrev pub NamesConstant : ℕ → Constant → Type 0
NamesConstant opcode (constant.Int n) = IsTrue (loads_narrow opcode)
NamesConstant opcode constant.Float = IsTrue (loads_narrow opcode)
NamesConstant opcode (constant.Text i) = IsTrue (loads_narrow opcode)
NamesConstant opcode (constant.Long n) = IsTrue (loads_wide opcode)
NamesConstant opcode constant.Double = IsTrue (loads_wide opcode)
NamesConstant opcode (constant.Other tag) = IsTrue (loads_narrow opcode) ⊎ (IsTrue (loads_wide opcode) × (tag ≡ 17))

-- invokevirtual, invokespecial or invokeinterface with a method that it may name
pub record NamesReceiverMethod (opcode : ℕ) (m : Member) : Type 0 where
  pub form : Form
  pub row : row_of form_rows opcode ≡ Some form
  pub method : IsCalledBy form m

-- the index names what the instruction asks for
abbrev pub NamesWell : ℕ → Use → Type 0
NamesWell opcode (used.Constant c) = NamesConstant opcode c
NamesWell opcode (used.Member m) = (AccessesFields opcode × IsField m) ⊎ ((opcode ≡ 184) × IsStatic m) ⊎ NamesReceiverMethod opcode m
NamesWell opcode (used.Class name) = IsTrue (names_class opcode)
NamesWell opcode used.None = ⊥

-- a Class, MethodHandle, MethodType or Dynamic
abbrev pub NamesOther : Use → Type 0
NamesOther (used.Constant (constant.Other tag)) = Unit {0}
NamesOther _ = ⊥

-- of an accepted instruction with an index, in their order: the index doesn't name what the instruction asks for, or it does and names a constant that isn't accepted, or a float
abbrev pub IsCauseWith : ℕ → Use → CauseKind → Type 0
IsCauseWith opcode u kind.Code = ¬ NamesWell opcode u
IsCauseWith opcode u kind.Constant = NamesWell opcode u × NamesOther u
IsCauseWith opcode u kind.Float = NamesWell opcode u × NamesFloat u
IsCauseWith opcode u _ = ⊥

-- an instruction of this pool has this cause
abbrev pub IsCauseOf : List Entry → Insn → CauseKind → Type 0
IsCauseOf pool (insn.Refused opcode) k = refused_by opcode ≡ Some k
IsCauseOf pool (insn.Pool opcode i) k = IsCauseWith opcode (use_of pool (insn.Pool opcode i)) k
IsCauseOf pool _ k = ⊥

abbrev pub HasNoCause : List Entry → Placed → Type 0
HasNoCause pool placed = (k : CauseKind) → ¬ IsCauseOf pool placed.insn k

-- the first instruction of a code with a cause, reached or not
pub record IsFirst (pool : List Entry) (code : Code) (k : CauseKind) (at : ℕ) : Type 0 where
  pub placed : List Placed
  pub spelled : IsCode code.bytes placed
  pub before : List Placed
  pub here : Placed
  pub after : List Placed
  pub parts : placed ≡ before ++ here ∷ after
  pub clean : AllByRecursion (HasNoCause pool) before
  pub cause : IsCauseOf pool here.insn k
  pub address : at ≡ here.at

-- ---- causes of methods

-- the address in a fault of a code
abbrev pub address_of : CodeFault → Option ℕ
address_of (fault.Opcode at) = Some at
address_of (fault.Truncated at) = Some at
address_of (fault.Target at) = Some at
address_of (fault.Switch at) = Some at
address_of fault.Memory = None

abbrev pub cause : CauseKind → ℕ → Cause
cause k at = record { kind = k; at = at }

-- the rows of causes, numbered in their order, of a method with this code
pub data Row (file : ClassFile) (m : Method) (code : Code) : ℕ → Cause → Type 0 where
  handler : code.handlers ≢ 0 → Row file m code 1 (cause kind.Handler 0)
  synchronized : ¬ IsUnsynchronized m.flags → Row file m code 2 (cause kind.Monitor 0)
  long_code : LONGEST_CODE < length code.bytes → Row file m code 3 (cause kind.LongCode 0)
  slots : MOST_SLOTS < code.max_stack + code.max_locals → Row file m code 4 (cause kind.Slots 0)
  float : (d : Descriptor) → IsMethodType m.desc d → ¬ IsFloatlessMethod d → Row file m code 5 (cause kind.Float 0)
  bad_code : (f : CodeFault) (at : ℕ) → IsBad code.bytes f → address_of f ≡ Some at → Row file m code 6 (cause kind.Code at)
  instruction : (k : CauseKind) (at : ℕ) → IsFirst file.pool code k at → Row file m code 7 (cause k at)
  untyped : (p : Program) → IsProgramOf file m p → ¬ HasFrames p → Row file m code 8 (cause kind.Types 0)

-- the method is refused for this cause: its row holds, and no row before it does
pub record IsRefused (file : ClassFile) (m : Method) (c : Cause) : Type 0 where
  pub code : Code
  pub has : m.code ≡ Some code
  pub number : ℕ
  pub row : Row file m code number c
  pub none_before : (n : ℕ) (d : Cause) → Row file m code n d → number ≤ n

-- none of these causes holds, and this is the program
pub record IsAccepted (file : ClassFile) (m : Method) (p : Program) : Type 0 where
  pub of_method : IsProgramOf file m p
  pub code : Code
  pub has : m.code ≡ Some code
  pub short : length code.bytes ≤ LONGEST_CODE
  pub few : p.max_stack + p.max_locals ≤ MOST_SLOTS
  pub typed : HasFrames p
