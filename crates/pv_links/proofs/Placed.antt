-- What is said of a link, from the places of its methods.
use Rattle.std.proofs.Common.{◌≡◌, ℕ, zero, suc, ◌<◌, List, [], ◌∷◌, length, Result, Ok, Err, Some, None, Option, false, refl, subst, sym, ◌∙◌, arith}
use Rattle.std.specs.Prelude.{slice_get, IfOk, IfSome, MatchOption}
use Rattle.pv_alike.specs.Least.{Rooted}
use Rattle.pv_value.specs.declared.memory.Memory.{Memory}
use Rattle.pv_class.specs.declared.file.ClassFile.{ClassFile}
use Rattle.pv_class.specs.declared.file.Code.{Code}
use Rattle.pv_class.specs.declared.file.Method.{Method}
use Rattle.pv_class.specs.Places.{IsNamedAt, IsPlaceOf}
use Rattle.pv_cert.specs.declared.cert.Section.{Section}
use Rattle.pv_check.specs.declared.checker.Checked.{Checked}
use Rattle.pv_check.specs.declared.checker.Checked.TheVariants as checked
use Rattle.pv_frame.specs.declared.cause.Cause.{Cause}
use Rattle.pv_report.specs.declared.verdict.Side.{Side}
use Rattle.pv_report.specs.declared.verdict.Side.TheVariants as side
use Rattle.pv_report.specs.declared.verdict.Verdict.{Verdict}
use Rattle.pv_report.specs.declared.verdict.Verdict.TheVariants as verdict
use Rattle.pv_report.specs.Judging.{IsLeastOnPlaces, IsLikeAt, IsRead}
use Rattle.pv_report.specs.Partners.{IsNamed, IsPartner}
use Rattle.pv_report.specs.Roots.{HaveLeast}
use Rattle.pv_report.specs.Verdicts.{HasCode, LackRoots}
use Rattle.pv_report.proofs.Cited.{contains_here, partner_once, place_of, slice_at, slice_once}
use Rattle.pv_sections.proofs.Found.{named_once}
use Rattle.pv_steps.specs.declared.step.Lemma.{Lemma}
use Rattle.pv_links.specs.declared.classes.Classes.{Classes}
use Rattle.pv_links.specs.declared.finding.LinkFinding.{LinkFinding}
use Rattle.pv_links.specs.declared.finding.LinkFinding.TheVariants as finding
use Rattle.pv_links.specs.declared.finding.Places.{Places}
use Rattle.pv_links.specs.declared.roots.RefusedSide.{RefusedSide}
use Rattle.pv_links.specs.declared.stage.Stage.{Stage}
use Rattle.pv_links.specs.declared.stage.Stage.TheVariants as stage
use Rattle.pv_links.specs.Findings.{AreMissing, AreOf, IsFinding, IsFindingOn, Link, LinkLemmas}
use Rattle.pv_links.specs.Made.{AreWithin, HasCodeAt, HaveCodesAt, IsChecked, IsFindingOnPlaces, IsPartnerAt, LeastOnPlaces, stage_at}

-- ---- three methods, or none

-- the method at the place that was found is that of the section
at_place : (file : ClassFile) (name desc : List ℕ) (k : ℕ) (x : Method) → IsNamedAt file.methods name desc k → slice_get file.methods k ≡ Some x → IsNamed name desc file.methods x
at_place file name desc k x found at =
    let same = slice_once file.methods k found.0 x found.1 at in
    subst (IsNamed name desc file.methods) same (record { among = contains_here file.methods k found.0 found.1; name_is = found.2; desc_is = found.3 })

-- there is no such method
pub none_named : (f g h : ClassFile) (s : Section) → IsPlaceOf f.methods s.name s.desc None → AreMissing f g h s
none_named f g h s none m n p are = let place = place_of f.methods m are.named.among in none place.0 (m, place.1, are.named.name_is, are.named.desc_is)

-- it is the method of each link on the section
method_once : (f g h : ClassFile) (s : Section) (k : ℕ) (x m n p : Method) → IsRead f → IsNamedAt f.methods s.name s.desc k → slice_get f.methods k ≡ Some x → AreOf f g h s m n p → m ≡ x
method_once f g h s k x m n p read found at are = let named = at_place f s.name s.desc k x found at in named_once f s.name s.desc m x k read are.named at named.name_is named.desc_is

-- the partner that was found is that of the method at its place
pub partner_found : (f g : ClassFile) (k : ℕ) (x : Method) (r : Result (Option ℕ) Memory) → slice_get f.methods k ≡ Some x → IfOk r (λ found. MatchOption found ((p : Method) → IsPartner x g.methods p → ⊥) (λ j. IsLikeAt x g.methods j)) → IfOk r (λ found. IsPartnerAt f k g found)
partner_found f g k x (Ok found) at is = λ m here. subst (λ (y : Method). MatchOption found ((p : Method) → IsPartner y g.methods p → ⊥) (λ j. IsLikeAt y g.methods j)) (slice_once f.methods k x m at here) is
partner_found f g k x (Err e) at is = tt

place_below : (methods : List Method) (k : ℕ) (x : Method) → slice_get methods k ≡ Some x → k < length methods
place_below [] k x at = absurd (cc at)
place_below (y ∷ methods) zero x at = omega arith
place_below (y ∷ methods) (suc k) x at = omega (arith, place_below methods k x at)

pub partner_below : (g : ClassFile) (x : Method) (r : Result (Option ℕ) Memory) → IfOk r (λ found. MatchOption found ((p : Method) → IsPartner x g.methods p → ⊥) (λ j. IsLikeAt x g.methods j)) → IfOk r (λ found. IfSome found (λ place. place < length g.methods))
partner_below g x (Ok (Some j)) is = place_below g.methods j is.0 is.1
partner_below g x (Ok None) is = tt
partner_below g x (Err e) is = tt

-- it has no partner in the middle class
pub without_middle : (f g h : ClassFile) (s : Section) (k : ℕ) → IsRead f → IsNamedAt f.methods s.name s.desc k → IsPartnerAt f k g None → AreMissing f g h s
without_middle f g h s k read found none m n p are = none found.0 found.1 n (subst (λ (q : Method). IsPartner q g.methods n) (method_once f g h s k found.0 m n p read found found.1 are) are.partner)

-- the method at a place that is like this one is its partner
like_partner : (g : ClassFile) (x y : Method) (j : ℕ) → IsLikeAt x g.methods j → slice_get g.methods j ≡ Some y → IsPartner x g.methods y
like_partner g x y j like at =
    let partner : IsPartner x g.methods like.0 = record { among = contains_here g.methods j like.0 like.1; like = like.2 } in
    subst (IsPartner x g.methods) (slice_once g.methods j like.0 y like.1 at) partner

-- its partner there has none in the last class
pub without_last : (f g h : ClassFile) (s : Section) (k j : ℕ) → IsRead f → IsRead g → IsNamedAt f.methods s.name s.desc k → IsPartnerAt f k g (Some j) → IsPartnerAt g j h None → AreMissing f g h s
without_last f g h s k j read (bytes, is) found partner none m n p are =
    let x = found.0 in
    let like : IsLikeAt x g.methods j = partner x found.1 in
    let one = method_once f g h s k x m n p read found found.1 are in
    let two : n ≡ like.0 = partner_once x g.methods n like.0 is.describes.distinct (subst (λ (q : Method). IsPartner q g.methods n) one are.partner) (like_partner g x like.0 j like like.1) in
    none like.0 like.1 p (subst (λ (q : Method). IsPartner q h.methods p) two are.last_partner)

as_finding : (lemmas : LinkLemmas) (f g h : ClassFile) (l : Link) (m n p : Method) (x : LinkFinding) → AreOf f g h l.0 m n p → IsFindingOn lemmas f m g n h p l x → IsFinding lemmas f g h l x
as_finding lemmas f g h l m n p finding.Missing are on = absurd on
as_finding lemmas f g h l m n p _ are on = (m, n, p, are, on)

-- what is said of the methods at their places is said of the link
pub finding_at : (lemmas : LinkLemmas) (k : Classes) (at : Places) (l : Link) (r : Result LinkFinding Memory) → IsNamedAt k.first.methods l.0.name l.0.desc at.first → IsPartnerAt k.first at.first k.middle (Some at.middle) → IsPartnerAt k.middle at.middle k.last (Some at.last)
    → IfOk r (λ f. IsFindingOnPlaces lemmas k at l f) → IfOk r (λ f. IsFinding lemmas k.first k.middle k.last l f)
finding_at lemmas k at l (Ok f) found partner last is =
    let x = found.0 in
    let like : IsLikeAt x k.middle.methods at.middle = partner x found.1 in
    let more : IsLikeAt like.0 k.last.methods at.last = last like.0 like.1 in
    as_finding lemmas k.first k.middle k.last l x like.0 more.0 f (record {
      named = at_place k.first l.0.name l.0.desc at.first x found found.1;
      partner = like_partner k.middle x like.0 at.middle like like.1;
      last_partner = like_partner k.last like.0 more.0 at.last more more.1;
    }) (is x like.0 more.0 found.1 like.1 more.1)
finding_at lemmas k at l (Err e) found partner last is = tt

-- ---- three methods that don't all have a root

-- where all have one, each has
pub first_code : (k : Classes) (at : Places) → AreWithin k at → HaveCodesAt k at None → HasCodeAt k.first at.first
first_code k at w codes m here =
    let n = slice_at k.middle.methods at.middle w.middle in
    let p = slice_at k.last.methods at.last w.last in
    (codes m n.0 p.0 here n.1 p.1).0

pub middle_code : (k : Classes) (at : Places) → AreWithin k at → HaveCodesAt k at None → HasCodeAt k.middle at.middle
middle_code k at w codes n there =
    let m = slice_at k.first.methods at.first w.first in
    let p = slice_at k.last.methods at.last w.last in
    (codes m.0 n p.0 m.1 there p.1).1

pub last_code : (k : Classes) (at : Places) → AreWithin k at → HaveCodesAt k at None → HasCodeAt k.last at.last
last_code k at w codes p last =
    let m = slice_at k.first.methods at.first w.first in
    let n = slice_at k.middle.methods at.middle w.middle in
    (codes m.0 n.0 p m.1 n.1 last).2

-- one has no code
pub code_finding : (lemmas : LinkLemmas) (k : Classes) (at : Places) (l : Link) (s : Stage) → HaveCodesAt k at (Some s) → IsFindingOnPlaces lemmas k at l (finding.NoCode s)
code_finding lemmas k at l stage.First is m n p = is m n p
code_finding lemmas k at l stage.Middle is m n p = is m n p
code_finding lemmas k at l stage.Last is m n p = is m n p

first_lacks : (lemmas : LinkLemmas) (k : Classes) (l : Link) (m n p : Method) (s : Side) (c : Cause) → HasCode p → LackRoots k.first m k.middle n (verdict.Refused s c) → IsFindingOn lemmas k.first m k.middle n k.last p l (finding.Refused (stage_at s stage.First stage.Middle) c)
first_lacks lemmas k l m n p side.First c code lacks = (lacks.0, code, lacks.1)
first_lacks lemmas k l m n p side.Second c code lacks = (lacks.0, code, lacks.1)

-- one of the first two is refused
pub first_refused : (lemmas : LinkLemmas) (k : Classes) (at : Places) (l : Link) (r : RefusedSide) → HaveCodesAt k at None → LeastOnPlaces k.first at.first k.middle at.middle (Err r) → IsFindingOnPlaces lemmas k at l (finding.Refused (stage_at r.side stage.First stage.Middle) r.cause)
first_refused lemmas k at l r codes lacks m n p here there last = first_lacks lemmas k l m n p r.side r.cause (codes m n p here there last).2 (lacks m n here there)

second_lacks : (lemmas : LinkLemmas) (k : Classes) (l : Link) (m n p : Method) (s : Side) (c : Cause) (one : Rooted) → HaveLeast k.first m k.middle n one → LackRoots k.middle n k.last p (verdict.Refused s c)
    → IsFindingOn lemmas k.first m k.middle n k.last p l (finding.Refused (stage_at s stage.Middle stage.Last) c)
second_lacks lemmas k l m n p side.First c one has lacks = (has.roots.one.form, lacks.0, lacks.1)
second_lacks lemmas k l m n p side.Second c one has lacks = (has.roots.one.form, lacks.0, lacks.1)

-- .. or the last
pub second_refused : (lemmas : LinkLemmas) (k : Classes) (at : Places) (l : Link) (r : RefusedSide) (one : Rooted) → LeastOnPlaces k.first at.first k.middle at.middle (Ok one) → LeastOnPlaces k.middle at.middle k.last at.last (Err r)
    → IsFindingOnPlaces lemmas k at l (finding.Refused (stage_at r.side stage.Middle stage.Last) r.cause)
second_refused lemmas k at l r one has lacks m n p here there last = second_lacks lemmas k l m n p r.side r.cause one (has m n here there) (lacks n p there last)

-- ---- three methods that have roots

pub sealed_at : (f g : ClassFile) (k j : ℕ) (l : Rooted) → k < length f.methods → j < length g.methods → LeastOnPlaces f k g j (Ok l) → l.graph.is_open ≡ false
sealed_at f g k j l lt low h =
    let m = slice_at f.methods k lt in
    let p = slice_at g.methods j low in
    (h m.0 p.0 m.1 p.1).least.sealed

pub first_rejected : (lemmas : LinkLemmas) (k : Classes) (at : Places) (l : Link) (one two : Rooted) (q : ℕ) → LeastOnPlaces k.first at.first k.middle at.middle (Ok one) → LeastOnPlaces k.middle at.middle k.last at.last (Ok two) → IsChecked lemmas.0 one l.0 (checked.Rejected q)
    → IsFindingOnPlaces lemmas k at l (finding.Rejected side.First q)
first_rejected lemmas k at l one two q has more is m n p here there last = ((more n p there last).roots.two.form, (one, has m n here there, is))

-- what isn't rejected is accepted
accepts : (lemmas : List Lemma) (l : Rooted) (s : Section) (x : Checked) → ((q : ℕ) → x ≡ checked.Rejected q → ⊥) → IsChecked lemmas l s x → IsChecked lemmas l s checked.Accepted
accepts lemmas l s checked.Accepted not is = is
accepts lemmas l s (checked.Rejected q) not is = absurd (not q refl)

pub second_rejected : (lemmas : LinkLemmas) (k : Classes) (at : Places) (l : Link) (one two : Rooted) (x : Checked) (q : ℕ) → LeastOnPlaces k.first at.first k.middle at.middle (Ok one) → LeastOnPlaces k.middle at.middle k.last at.last (Ok two) → ((q : ℕ) → x ≡ checked.Rejected q → ⊥)
    → IsChecked lemmas.0 one l.0 x → IsChecked lemmas.1 two l.1 (checked.Rejected q) → IsFindingOnPlaces lemmas k at l (finding.Rejected side.Second q)
second_rejected lemmas k at l one two x q has more not first is m n p here there last = ((one, has m n here there, accepts lemmas.0 one l.0 x not first), (two, more n p there last, is))

pub both_accepted : (lemmas : LinkLemmas) (k : Classes) (at : Places) (l : Link) (one two : Rooted) (x y : Checked) → LeastOnPlaces k.first at.first k.middle at.middle (Ok one) → LeastOnPlaces k.middle at.middle k.last at.last (Ok two) → ((q : ℕ) → x ≡ checked.Rejected q → ⊥)
    → ((q : ℕ) → y ≡ checked.Rejected q → ⊥) → IsChecked lemmas.0 one l.0 x → IsChecked lemmas.1 two l.1 y → IsFindingOnPlaces lemmas k at l finding.Equivalent
both_accepted lemmas k at l one two x y has more not none first second m n p here there last = ((one, has m n here there, accepts lemmas.0 one l.0 x not first), (two, more n p there last, accepts lemmas.1 two l.1 y none second))

-- ---- two methods that have code

no_code : (m : Method) → m.code ≡ None → HasCode m → ⊥
no_code m e h = absurd (let both : ◌≡◌ {A = Option Code} None (Some h.0) = sym e ∙ h.1 in cc both)

-- lack a root only where one is refused
pub other_verdict : (f g : ClassFile) (k j : ℕ) (v : Verdict) → k < length f.methods → j < length g.methods → HasCodeAt f k → HasCodeAt g j → ((s : Side) (c : Cause) → v ≡ verdict.Refused s c → ⊥) → IsLeastOnPlaces f k g j (Err v) → ⊥
other_verdict f g k j v lt low first second not is =
    let m = slice_at f.methods k lt in
    let p = slice_at g.methods j low in
    by m.0 p.0 v not (is m.0 p.0 m.1 p.1) (first m.0 m.1) (second p.0 p.1)
  where
    by : (m p : Method) (v : Verdict) → ((s : Side) (c : Cause) → v ≡ verdict.Refused s c → ⊥) → LackRoots f m g p v → HasCode m → HasCode p → ⊥
    by m p (verdict.NoCode side.First) not lacks x y = no_code m lacks x
    by m p (verdict.NoCode side.Second) not lacks x y = no_code p lacks.1 y
    by m p (verdict.Refused s c) not lacks x y = not s c refl
    by m p _ not lacks x y = lacks
