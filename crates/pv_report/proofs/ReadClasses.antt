-- What a class file that was read gives for its methods.
use Rattle.std.proofs.Common.{◌≡◌, ℕ, ◌<◌, List, [], ◌∷◌, length, Option, Some, None, refl}
use Rattle.std.specs.Prelude.{slice_get}
use Rattle.std.specs.List.{AllByRecursion, AllZip}
use Rattle.pv_value.specs.declared.descriptor.Descriptor.{Descriptor}
use Rattle.pv_value.specs.Descriptors.{IsMethodType}
use Rattle.pv_pool.specs.declared.entry.Entry.{Entry}
use Rattle.pv_class.specs.declared.file.Code.{Code}
use Rattle.pv_class.specs.declared.file.Method.{Method}
use Rattle.pv_class.specs.declared.file.ClassFile.{ClassFile}
use Rattle.pv_class.specs.Items.{MemberInfo}
use Rattle.pv_class.specs.ClassFiles.{IsMethod}
use Rattle.pv_frame.specs.Answers as frame
use Rattle.pv_report.specs.Verdicts.{HasCode}
use Rattle.pv_report.specs.Judging.{IsRead}
use Rattle.pv_report.proofs.Places.{all_here, slice_at}

abbrev HasType : Method → Type 0
HasType m = (d : Descriptor) × IsMethodType m.desc d

methods_typed : (pool : List Entry) (items : List MemberInfo) (methods : List Method) → AllZip (IsMethod pool) items methods → AllByRecursion HasType methods
methods_typed pool [] [] are = tt
methods_typed pool [] (m ∷ methods) are = absurd are
methods_typed pool (i ∷ items) [] are = absurd are
methods_typed pool (i ∷ items) (m ∷ methods) are = (are.0.typed, methods_typed pool items methods are.1)

pub references : (file : ClassFile) → IsRead file → frame.HasReferences file
references file (bytes, is) = is.describes.pool.references

-- the method at a place may be asked for its frames
pub code_there : (file : ClassFile) (place : ℕ) → IsRead file → place < length file.methods → ((m : Method) → slice_get file.methods place ≡ Some m → HasCode m) → frame.HasCode file place
code_there file place (bytes, is) lt has =
    let found = slice_at file.methods place lt in
    let code = has found.0 found.1 in
    let type = all_here HasType file.methods place found.0 (methods_typed file.pool is.items.methods file.methods is.describes.methods) found.1 in
    record { method = found.0; there = found.1; code = code.0; has = code.1; desc = type.0; typed = type.1 }

-- a method without a code
pub no_code : (m : Method) → (HasCode m → ⊥) → m.code ≡ None
no_code m absent = by m.code refl
  where
    by : (o : Option Code) → m.code ≡ o → m.code ≡ None
    by None e = e
    by (Some code) e = absurd (absent (code, e))
