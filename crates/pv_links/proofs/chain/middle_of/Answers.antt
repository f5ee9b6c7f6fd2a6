use Rattle.std.proofs.Common.{◌≡◌, ◌≢◌, List, ℕ, Result, Ok, Err, refl, sym, subst}
use Rattle.pv_class.specs.declared.fault.ClassFault.{ClassFault}
use Rattle.pv_class.specs.declared.fault.ClassFault.TheVariants as fault
use Rattle.pv_class.specs.declared.file.ClassFile.{ClassFile}
use Rattle.pv_class.specs.Answers.{Tells}
use Rattle.pv_class.specs.ClassFiles.{IsClass}
use Rattle.pv_links.proofs.chain.middle_of.Goals as goal

-- with memory, the bytes of a class have no fault
no_fault : (bytes : List ℕ) (file : ClassFile) (f : ClassFault) → f ≢ fault.Memory → IsClass bytes file → Tells bytes (Err f) → ⊥
no_fault bytes file fault.Memory has is only = has refl
no_fault bytes file f has is only = absurd (let both : ◌≡◌ {A = Result ClassFile ClassFault} (Err f) (Ok file) = only (Ok file) is in cc both)

pub unreachable-requires : goal.unreachable-requires
unreachable-requires c =
    let middle = c.args.chain.now.middle in
    no_fault c.as_slice.result.now c.requires.file c.in-Err.fault c.in_default.not-Memory (subst (λ (bytes : List ℕ). IsClass bytes c.requires.file) (sym c.as_slice.ensures) c.requires.file_is) c.in-Err.ensures.only
