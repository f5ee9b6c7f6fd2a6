-- Calls in the code of a method (JVMS 6.5).
use Rattle.std.specs.Prelude.{◌≡◌, ℕ, ◌≤◌, List, Some}
use Rattle.std.specs.List.{Contains}
use Rattle.pv_class.specs.declared.file.Code.{Code}
use Rattle.pv_class.specs.declared.file.Method.{Method}
use Rattle.pv_insn.specs.declared.insn.Insn.{Insn}
use Rattle.pv_insn.specs.declared.insn.Insn.TheVariants as insn
use Rattle.pv_insn.specs.declared.insn.Placed.{Placed}
use Rattle.pv_insn.specs.Codes.{IsCode}

-- invokevirtual, invokespecial, invokestatic or invokeinterface; each of them names an entry of the constant pool
abbrev pub IsCall : Insn → Type 0
IsCall (insn.Pool opcode i) = (182 ≤ opcode) × (opcode ≤ 185)
IsCall _ = ⊥

-- some of these instructions is one
abbrev pub SomeCall : List Placed → Type 0
SomeCall placed = (one : Placed) × Contains placed one × IsCall one.insn

-- these bytes are a code with a call, reached or not
abbrev pub HasCall : List ℕ → Type 0
HasCall bytes = (placed : List Placed) × IsCode bytes placed × SomeCall placed

-- the code of a method has a call
abbrev pub MakesCalls : Method → Type 0
MakesCalls m = (code : Code) × (m.code ≡ Some code) × HasCall code.bytes
