-- What a class file that was read gives for its methods.
use Rattle.std.proofs.Common.{◌≡◌, ℕ, zero, suc, ◌<◌, List, [], ◌∷◌, length, Some, refl, subst, arith}
use Rattle.std.specs.Prelude.{slice_get}
use Rattle.std.specs.List.{AllZip}
use Rattle.pv_value.specs.declared.descriptor.Descriptor.{Descriptor}
use Rattle.pv_value.specs.Descriptors.{IsMethodType}
use Rattle.pv_pool.specs.declared.entry.Entry.{Entry}
use Rattle.pv_class.specs.declared.file.Method.{Method}
use Rattle.pv_class.specs.declared.file.ClassFile.{ClassFile}
use Rattle.pv_class.specs.Items.{MemberInfo}
use Rattle.pv_class.specs.ClassFiles.{IsMethod}
use Rattle.pv_frame.specs.Answers.{HasCode}
use Rattle.cases_methods.specs.Methods.{IsRead, OwnsCode}

method_at : (methods : List Method) (place : ℕ) → place < length methods → (m : Method) × (slice_get methods place ≡ Some m)
method_at [] place lt = absurd (omega (arith, lt))
method_at (m ∷ methods) zero lt = (m, refl)
method_at (m ∷ methods) (suc place) lt = method_at methods place (omega (arith, lt))

typed_at : (pool : List Entry) (items : List MemberInfo) (methods : List Method) (place : ℕ) (m : Method) → AllZip (IsMethod pool) items methods → slice_get methods place ≡ Some m → (d : Descriptor) × IsMethodType m.desc d
typed_at pool items [] place m are at = absurd (cc at)
typed_at pool [] (n ∷ methods) place m are at = absurd are
typed_at pool (i ∷ items) (n ∷ methods) zero m are at = let same : n ≡ m = cc at in subst (λ (x : Method). (d : Descriptor) × IsMethodType x.desc d) same are.0.typed
typed_at pool (i ∷ items) (n ∷ methods) (suc place) m are at = typed_at pool items methods place m are.1 at

-- the method at a place may be asked for its frames
pub code_there : (file : ClassFile) (place : ℕ) → IsRead file → place < length file.methods → ((m : Method) → slice_get file.methods place ≡ Some m → OwnsCode m) → HasCode file place
code_there file place (bytes, is) lt has =
    let found = method_at file.methods place lt in
    let code = has found.0 found.1 in
    let type = typed_at file.pool is.items.methods file.methods place found.0 is.describes.methods found.1 in
    record { method = found.0; there = found.1; code = code.0; has = code.1; desc = type.0; typed = type.1 }
