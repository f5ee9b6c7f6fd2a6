-- Methods by their spelling, and all methods of a class.
use Rattle.std.proofs.Common.{◌≡◌, List, [], ◌∷◌, ◌++◌, length, refl, sym, ap, ◌∙◌, append_assoc}
use Rattle.std.specs.Int.{w16}
use Rattle.std.specs.List.{AllByRecursion, AllZip, Contains, push}
use Rattle.std.proofs.lemmas.List.{append-nil}
use Rattle.pv_pool.specs.declared.entry.Entry.{Entry}
use Rattle.pv_format.proofs.Cited.{wide16, Spells, seen, check_spells, here_spells, then_spells, made_spells, counted_spells, Along, along_spells}
use Rattle.pv_class.specs.declared.member.MemberKind.TheVariants as kind
use Rattle.pv_class.specs.declared.file.Method.{Method}
use Rattle.pv_class.specs.declared.signature.Signature.{Signature}
use Rattle.pv_class.specs.declared.fault.Cause.TheVariants as cause
use Rattle.pv_class.specs.Checks.{new}
use Rattle.pv_class.specs.Grammars.{failure, short}
use Rattle.pv_class.specs.ClassGrammar.{in_file, signature_of, method_of, signature, signatures, method, methods, all_methods}
use Rattle.pv_class.specs.Items.{IsTable, table, MemberInfo, member_text, FitsMemberInfo}
use Rattle.pv_class.specs.ClassFiles.{IsMethod, AreDistinct}
use Rattle.pv_class.proofs.ItemTexts.{text_found, text_read, text_is, member_spells, info, front_of, front_is}
use Rattle.pv_class.proofs.MethodTexts.{method_attributes_spells}
use Rattle.pv_class.proofs.Distinct.{new_distinct, distinct_new}

-- ---- a method

-- a method that is new after others with these signatures
abbrev IsNew : List Entry → List Signature → MemberInfo → Method → Type 0
IsNew pool seen m method = FitsMemberInfo m × IsMethod pool m method × (Contains seen (signature method) → ⊥)

-- the method of an item is what its indices stand for
method_is : (pool : List Entry) (m : MemberInfo) (y : Method) → IsMethod pool m y → y ≡ method_of pool (front_of m) y.code
method_is pool m y is = rw (← is.flags, text_read pool m.name y.name is.name, text_read pool m.desc y.desc is.desc) refl

method_spells : (pool : List Entry) (before : List Signature) → Spells (method pool before) 0 (λ (p : MemberInfo × Method). member_text p.0) (λ p _. IsNew pool before p.0 p.1) (λ p. p.1)
unfolding method
method_spells pool before = seen (here_spells (λ left. then_spells (member_spells kind.Method pool) (λ m. check_spells (new before (signature_of pool m)) (failure cause.Duplicate left)
    (counted_spells 0 (short in_file) w16 wide16 (λ p. length p.0) (λ n p rest q. q.0) (λ n. made_spells (λ code. method_of pool m code) (method_attributes_spells pool n))))))
    (λ (m, (attrs, code)) rest (f, (is_new, (few, (_, (fit, named, among))))).
    let fits : FitsMemberInfo (info m attrs) = record { flags = f.flags; name = f.name.0; desc = f.desc.0; attributes = (few, fit) } in
    let is : IsMethod pool (info m attrs) (method_of pool m code) = record { flags = refl; name = text_found pool m.name f.name.1; desc = text_found pool m.desc f.desc.1; typed = f.typed; attributes = named; code = among } in
    ((info m attrs, method_of pool m code), simp append_assoc, refl, (fits, is, is_new)))
    (λ (m, y) rest (fits, is, is_new).
    let same : y ≡ method_of pool (front_of m) y.code = method_is pool m y is in
    let new_too : Contains before (signature_of pool (front_of m)) → ⊥ = λ there. is_new (rw (ap signature same) there) in
    ((front_of m, (m.attributes, y.code)), simp append_assoc, same, (front_is kind.Method pool m y.desc fits (text_is pool m.name y.name is.name) is.desc is.typed, (new_too, (fits.attributes.0, (refl, (fits.attributes.1, is.attributes, is.code)))))))

-- ---- methods after others

abbrev AreNew : List Entry → List Method → List MemberInfo → List Method → Type 0
AreNew pool = Along push (λ so_far. IsNew pool (signatures so_far))

new_are : (pool : List Entry) (so_far : List Method) (ms : List MemberInfo) (all : List Method) → AreDistinct so_far → AreNew pool so_far ms all → (ys : List Method) × (all ≡ so_far ++ ys) × AllByRecursion FitsMemberInfo ms × AllZip (IsMethod pool) ms ys × AreDistinct all
new_are pool so_far [] all distinct h = ([], h ∙ sym (append-nil so_far), tt, tt, rw h distinct)
new_are pool so_far (m ∷ ms) all distinct (y, (fits, is, is_new), more) =
    let o = new_are pool (so_far ++ y ∷ []) ms all (new_distinct so_far y distinct is_new) more in
    (y ∷ o.0, o.1 ∙ append_assoc so_far (y ∷ []) o.0, (fits, o.2), (is, o.3), o.4)

are_new : (pool : List Entry) (so_far : List Method) (ms : List MemberInfo) (ys : List Method) → AreDistinct (so_far ++ ys) → AllByRecursion FitsMemberInfo ms → AllZip (IsMethod pool) ms ys → AreNew pool so_far ms (so_far ++ ys)
are_new pool so_far [] [] distinct fits are = append-nil so_far
are_new pool so_far [] (y ∷ ys) distinct fits are = absurd are
are_new pool so_far (m ∷ ms) [] distinct fits are = absurd are
are_new pool so_far (m ∷ ms) (y ∷ ys) distinct fits are =
    let e = append_assoc so_far (y ∷ []) ys in
    (y, (fits.0, are.0, distinct_new so_far y ys distinct), rw (← e) (are_new pool (so_far ++ y ∷ []) ms ys (rw e distinct) fits.1 are.1))

-- ---- all methods

abbrev pub AreMethods : List Entry → List MemberInfo → List Method → Type 0
AreMethods pool ms all = IsTable FitsMemberInfo ms × AllZip (IsMethod pool) ms all × AreDistinct all

pub all_methods_spells : (pool : List Entry) → Spells (all_methods pool) 0 (λ (p : List MemberInfo × List Method). table member_text p.0) (λ p _. AreMethods pool p.0 p.1) (λ p. p.1)
unfolding all_methods methods
all_methods_spells pool =
    let methods_spells = along_spells (methods pool) member_text push (λ so_far. IsNew pool (signatures so_far)) (λ _. refl) (λ n s. refl) (λ so_far. method_spells pool (signatures so_far)) in
    seen (counted_spells 0 (short in_file) w16 wide16 (λ p. length p.0) (λ n p rest q. q.0) (λ n. methods_spells n []))
    (λ (ms, all) rest (few, (_, new)). let o = new_are pool [] ms all (λ i j m n ei ej names descs. absurd cc) new in ((ms, all), refl, refl, ((few, o.2), rw o.1 o.3, o.4)))
    (λ (ms, all) rest ((few, fit), are, distinct). ((ms, all), refl, refl, (few, (refl, are_new pool [] ms all distinct fit are))))
