-- Methods of class files that were read.
use Rattle.std.specs.Prelude.{◌≡◌, ℕ, List, Some}
use Rattle.pv_class.specs.declared.file.ClassFile.{ClassFile}
use Rattle.pv_class.specs.declared.file.Code.{Code}
use Rattle.pv_class.specs.declared.file.Method.{Method}
use Rattle.pv_class.specs.ClassFiles.{IsClass}

-- a class file that was read
abbrev pub IsRead : ClassFile → Type 0
IsRead file = (bytes : List ℕ) × IsClass bytes file

-- a method with a code
abbrev pub OwnsCode : Method → Type 0
OwnsCode m = (code : Code) × (m.code ≡ Some code)
