-- What read_class answers.
use Rattle.std.specs.Prelude.{◌≡◌, ℕ, List, Result, Ok, Err}
use Rattle.pv_class.specs.declared.file.ClassFile.{ClassFile}
use Rattle.pv_class.specs.declared.fault.ClassFault.{ClassFault}
use Rattle.pv_class.specs.declared.fault.ClassFault.TheVariants as fault
use Rattle.pv_class.specs.ClassFiles.{IsClass}
use Rattle.pv_class.specs.ClassFaults.{IsBad}

-- what there is to answer of the bytes of a file: the class file that they are, or their fault
abbrev pub IsAnswer : List ℕ → Result ClassFile ClassFault → Type 0
IsAnswer bytes (Ok file) = IsClass bytes file
IsAnswer bytes (Err e) = IsBad bytes e

-- a fact, unless memory ran out
abbrev pub UnlessMemory : Result ClassFile ClassFault → Type 0 → Type 0
UnlessMemory (Err fault.Memory) P = Unit {0}
UnlessMemory result P = P

-- the answer is the class file, or its fault
abbrev pub Answers : List ℕ → Result ClassFile ClassFault → Type 0
Answers bytes result = UnlessMemory result (IsAnswer bytes result)

-- no other answer is right
abbrev pub Tells : List ℕ → Result ClassFile ClassFault → Type 0
Tells bytes result = (answer : Result ClassFile ClassFault) → IsAnswer bytes answer → UnlessMemory result (result ≡ answer)
