-- What is said of a section, from the places of its methods.
use Rattle.std.proofs.Common.{◌≡◌, ℕ, ◌<◌, List, length, Result, Ok, Err, Some, None, false, subst, sym, ◌∙◌}
use Rattle.std.specs.Prelude.{slice_get, IfOk}
use Rattle.pv_alike.specs.Least.{Rooted}
use Rattle.pv_value.specs.declared.memory.Memory.{Memory}
use Rattle.pv_class.specs.declared.file.ClassFile.{ClassFile}
use Rattle.pv_class.specs.declared.file.Method.{Method}
use Rattle.pv_cert.specs.declared.cert.Section.{Section}
use Rattle.pv_steps.specs.declared.step.Lemma.{Lemma}
use Rattle.pv_report.specs.declared.verdict.Verdict.{Verdict}
use Rattle.pv_report.specs.declared.verdict.Verdict.TheVariants as verdict
use Rattle.pv_class.specs.Places.{IsNamedAt, IsPlaceOf}
use Rattle.pv_report.specs.Judging.{IsRead, IsLeastOnPlaces, IsLikeAt}
use Rattle.pv_report.specs.Partners.{IsNamed, IsPartner}
use Rattle.pv_report.specs.Verdicts.{LackRoots}
use Rattle.pv_report.proofs.Cited.{contains_here, place_of, slice_at, slice_once}
use Rattle.pv_sections.specs.declared.finding.Finding.{Finding}
use Rattle.pv_sections.specs.declared.finding.Finding.TheVariants as finding
use Rattle.pv_sections.specs.Findings.{AreOf, AreMissing, IsFindingOn, IsFinding}
use Rattle.pv_sections.specs.Reading.{IsFindingOnPlaces}

-- the method of a class with a name and a descriptor is the one at this place
pub named_once : (file : ClassFile) (name desc : List ℕ) (m x : Method) (k : ℕ) → IsRead file → IsNamed name desc file.methods m → slice_get file.methods k ≡ Some x → x.name ≡ name → x.desc ≡ desc → m ≡ x
named_once file name desc m x k (bytes, is) named at p q =
    let place = place_of file.methods m named.among in
    let same : place.0 ≡ k = is.describes.distinct place.0 k m x place.1 at (named.name_is ∙ sym p) (named.desc_is ∙ sym q) in
    slice_once file.methods k m x (subst (λ (i : ℕ). slice_get file.methods i ≡ Some m) same place.1) at

-- the method at the place that was found is that of the section
at_place : (file : ClassFile) (name desc : List ℕ) (k : ℕ) (x : Method) → IsNamedAt file.methods name desc k → slice_get file.methods k ≡ Some x → IsNamed name desc file.methods x
at_place file name desc k x found at =
    let same = slice_once file.methods k found.0 x found.1 at in
    subst (IsNamed name desc file.methods) same (record { among = contains_here file.methods k found.0 found.1; name_is = found.2; desc_is = found.3 })

-- there is no such method
pub none_named : (first second : ClassFile) (s : Section) → IsPlaceOf first.methods s.name s.desc None → AreMissing first second s
none_named first second s none m p are =
    let place = place_of first.methods m are.named.among in
    none place.0 (m, place.1, are.named.name_is, are.named.desc_is)

-- it has no partner, so that the two are missing
pub without_partner : (first second : ClassFile) (s : Section) (k : ℕ) (x : Method) → IsRead first → IsNamedAt first.methods s.name s.desc k → slice_get first.methods k ≡ Some x → ((p : Method) → IsPartner x second.methods p → ⊥) → AreMissing first second s
without_partner first second s k x read found at none m p are =
    let named = at_place first s.name s.desc k x found at in
    let same = named_once first s.name s.desc m x k read are.named at named.name_is named.desc_is in
    none p (subst (λ (n : Method). IsPartner n second.methods p) same are.partner)

-- a verdict without two roots is said of the section
pub lacking : (lemmas : List Lemma) (first : ClassFile) (m : Method) (second : ClassFile) (p : Method) (s : Section) (v : Verdict) → LackRoots first m second p v → IsFindingOn lemmas first m second p s (finding.Verdict v)
lacking lemmas first m second p s verdict.Equivalent is = absurd is
lacking lemmas first m second p s _ is = is

as_finding : (lemmas : List Lemma) (first second : ClassFile) (s : Section) (m p : Method) (f : Finding) → AreOf first second s m p → IsFindingOn lemmas first m second p s f → IsFinding lemmas first second s f
as_finding lemmas first second s m p (finding.Verdict verdict.Missing) are on = absurd on
as_finding lemmas first second s m p _ are on = (m, p, are, on)

-- what is said of the methods at their places is said of the section
pub finding_at : (lemmas : List Lemma) (first second : ClassFile) (s : Section) (k j : ℕ) (x : Method) (r : Result Finding Memory) → IsNamedAt first.methods s.name s.desc k → slice_get first.methods k ≡ Some x → IsLikeAt x second.methods j
    → IfOk r (λ f. IsFindingOnPlaces lemmas first k second j s f) → IfOk r (λ f. IsFinding lemmas first second s f)
finding_at lemmas first second s k j x (Ok f) found at like h =
    let partner : IsPartner x second.methods like.0 = record { among = contains_here second.methods j like.0 like.1; like = like.2 } in
    as_finding lemmas first second s x like.0 f (record { named = at_place first s.name s.desc k x found at; partner = partner }) (h x like.0 at like.1)
finding_at lemmas first second s k j x (Err e) found at like h = tt

-- the least graph of two methods at their places is sealed
pub least_sealed : (first second : ClassFile) (k j : ℕ) (l : Rooted) → k < length first.methods → j < length second.methods → IsLeastOnPlaces first k second j (Ok l) → l.graph.is_open ≡ false
least_sealed first second k j l lt low h =
    let m = slice_at first.methods k lt in
    let p = slice_at second.methods j low in
    (h m.0 p.0 m.1 p.1).least.sealed
