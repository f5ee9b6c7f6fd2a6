-- There is one verdict on each method.
use Rattle.std.proofs.Common.{◌≡◌, ◌⊎◌, ℕ, ◌<◌, List, length, get_or, Option, Some, None, inl, inr, refl, sym, ap, subst, ◌∙◌}
use Rattle.std.specs.Prelude.{slice_get}
use Rattle.std.specs.List.{AllByRecursion}
use Rattle.pv_class.specs.declared.file.Method.{Method}
use Rattle.pv_class.specs.declared.file.Code.{Code}
use Rattle.pv_class.specs.declared.file.ClassFile.{ClassFile}
use Rattle.pv_class.specs.ClassFiles.{AreDistinct}
use Rattle.pv_class.proofs.Cited.{HasBytes}
use Rattle.pv_flow.specs.Edges.{edges_of}
use Rattle.pv_report.specs.declared.verdict.Side.TheVariants as side
use Rattle.pv_report.specs.declared.verdict.Verdict.{Verdict}
use Rattle.pv_report.specs.declared.verdict.Verdict.TheVariants as verdict
use Rattle.pv_frame.specs.declared.cause.Cause.{Cause}
use Rattle.pv_frame.specs.declared.program.Program.{Program}
use Rattle.pv_frame.proofs.Cited.{one_program, one_cause, accepted_or_refused}
use Rattle.pv_layout.specs.Structure.{IsStructured, MeetsShape}
use Rattle.pv_build.specs.Conversion.{Meets, Form}
use Rattle.pv_layout.proofs.Cited.{one_shape_cause, not_structured}
use Rattle.pv_alike.specs.Least.{Rooted}
use Rattle.pv_heights.specs.Verdicts as search
use Rattle.pv_alike.specs.Laws.{IsSameRooted}
use Rattle.pv_counted.proofs.Cited.{cleared_kept}
use Rattle.pv_certify.specs.Searched.{Limits}
use Rattle.pv_report.specs.declared.verdict.Graphs.{Graphs}
use Rattle.pv_report.specs.declared.verdict.Graphs.TheVariants.{Least, LeastOrCleared}
use Rattle.pv_report.specs.Options.{Options}
use Rattle.pv_certify.proofs.Cited.{verdict_by_nodes}
use Rattle.pv_report.specs.Roots.{HaveLeast}
use Rattle.pv_report.specs.Judging.{said_of}
use Rattle.pv_report.specs.Verdicts.{HasCode, Finds, FindsCleared, FindsEqual, FindsOther, IsVerdict, IsVerdictOn, LackRoots}
use Rattle.pv_report.specs.Partners.{IsPartner}
use Rattle.pv_report.proofs.Places.{all_at, here_again}
use Rattle.pv_report.proofs.SameRoots.{one_least, one_rooted}

-- ---- what has a code

form_code : (file : ClassFile) (m : Method) → Form file m → HasCode m
form_code file m a = (a.accepted.code, a.accepted.has)

meets_code : (file : ClassFile) (m : Method) (cause : Cause) → Meets file m cause → HasCode m
meets_code file m cause (inl h) = (h.code, h.has)
meets_code file m cause (inr h) = (h.accepted.code, h.accepted.has)

no_code : (m : Method) → m.code ≡ None → HasCode m → ⊥
no_code m e h = absurd (let both : ◌≡◌ {A = Option Code} None (Some h.0) = sym e ∙ h.1 in cc)

-- ---- one cause

-- it is refused for one cause
cause_once : (file : ClassFile) (m : Method) (a b : Cause) → HasBytes m → Meets file m a → Meets file m b → a ≡ b
cause_once file m a b bytes (inl h) (inl k) = one_cause file m a b bytes h k
cause_once file m a b bytes (inl h) (inr k) = absurd (accepted_or_refused file m k.program a bytes k.accepted h)
cause_once file m a b bytes (inr h) (inl k) = absurd (accepted_or_refused file m h.program b bytes h.accepted k)
cause_once file m a b bytes (inr h) (inr k) =
    let one = one_program file m k.program h.program bytes k.accepted.of_method h.accepted.of_method in
    one_shape_cause h.program a b h.meets (subst (λ (q : Program). MeetsShape q b) one k.meets)

form_structured : (file : ClassFile) (m : Method) (a : Form file m) → IsStructured a.program
form_structured file m a = record {
  edges = edges_of a.blocks;
  has = record { blocks = a.blocks; flow = a.shaped.flow; few = a.few; edges_are = refl };
  reducible = a.shaped.reducible;
  shallow = a.shaped.shallow;
}

-- a method with a root isn't refused
not_refused : (file : ClassFile) (m : Method) (cause : Cause) → HasBytes m → Meets file m cause → Form file m → ⊥
not_refused file m cause bytes (inl h) a = accepted_or_refused file m a.program cause bytes a.accepted h
not_refused file m cause bytes (inr h) a =
    let one = one_program file m h.program a.program bytes h.accepted.of_method a.accepted.of_method in
    not_structured a.program cause (subst (λ (q : Program). MeetsShape q cause) one h.meets) (form_structured file m a)

-- ---- one verdict on a method and its partner

-- a search finds one thing of the roots of two methods
found_once : (limits : Limits) (f : ClassFile) (m : Method) (g : ClassFile) (p : Method) (l k : Rooted) (v w : search.Verdict) → HasBytes m → HasBytes p → HaveLeast f m g p l → HaveLeast f m g p k → Finds limits v l → Finds limits w k → v ≡ w
found_once limits f m g p l k v w x y h j a b =
    let one = one_least f m g p l k x y h j in
    verdict_by_nodes l k limits v w one.0 one.1 one.2 a b

-- what it finds in a cleared graph of theirs it finds in each
cleared_there : (graphs : Graphs) (limits : Limits) (l k : Rooted) → IsSameRooted l k → FindsCleared graphs limits k → FindsCleared graphs limits l
cleared_there Least limits l k same found = found
cleared_there LeastOrCleared limits l k same (n, cleared, equal) = (n, cleared_kept l k n same cleared, equal)

-- it doesn't find them equal and something else
not_both : (options : Options) (f : ClassFile) (m : Method) (g : ClassFile) (p : Method) (l k : Rooted) (v : search.Verdict) → HasBytes m → HasBytes p → HaveLeast f m g p l → HaveLeast f m g p k → FindsOther options v l → FindsEqual options k → ⊥
not_both options f m g p l k v x y h j other (inl equal) = other.0 (inl (subst (λ (w : search.Verdict). Finds options.limits w l) (found_once options.limits f m g p l k v search.equivalent x y h j other.1 equal) other.1))
not_both options f m g p l k v x y h j other (inr cleared) = other.0 (inr (cleared_there options.graphs options.limits l k (one_rooted f m g p l k x y h j) cleared))

-- what a verdict says, in the order of the verdicts: of the code of the first, of the second, of the first's cause or root, of the second's
data Said (options : Options) (f : ClassFile) (m : Method) (g : ClassFile) (p : Method) : Verdict → Type 0 where
  no_first : m.code ≡ None → Said options f m g p (verdict.NoCode side.First)
  no_second : HasCode m → p.code ≡ None → Said options f m g p (verdict.NoCode side.Second)
  first_refused : (cause : Cause) → HasCode m → HasCode p → Meets f m cause → Said options f m g p (verdict.Refused side.First cause)
  second_refused : (cause : Cause) → HasCode m → HasCode p → Form f m → Meets g p cause → Said options f m g p (verdict.Refused side.Second cause)
  found_equal : (l : Rooted) → HaveLeast f m g p l → FindsEqual options l → Said options f m g p verdict.Equivalent
  found_other : (v : Verdict) (found : search.Verdict) (l : Rooted) → HaveLeast f m g p l → FindsOther options found l → v ≡ said_of found → Said options f m g p v

said_by : (options : Options) (f : ClassFile) (m : Method) (g : ClassFile) (p : Method) (v : Verdict) → IsVerdictOn options f m g p v → Said options f m g p v
said_by options f m g p verdict.Missing h = absurd h
said_by options f m g p (verdict.NoCode side.First) h = no_first h
said_by options f m g p (verdict.NoCode side.Second) h = no_second h.0 h.1
said_by options f m g p (verdict.Refused side.First cause) h = first_refused cause (meets_code f m cause h.1) h.0 h.1
said_by options f m g p (verdict.Refused side.Second cause) h = second_refused cause (form_code f m h.0) (meets_code g p cause h.1) h.0 h.1
said_by options f m g p verdict.Equivalent (l, h, (found, same)) = found_equal l h found
said_by options f m g p verdict.Apart (l, h, found) = found_other verdict.Apart search.apart l h found refl
said_by options f m g p (verdict.Rounds n) (l, h, found) = found_other (verdict.Rounds n) (search.rounds n) l h found refl
said_by options f m g p (verdict.Budget k) (l, h, found) = found_other (verdict.Budget k) (search.budget k) l h found refl

said_once : (options : Options) (f : ClassFile) (m : Method) (g : ClassFile) (p : Method) (v w : Verdict) → HasBytes m → HasBytes p → Said options f m g p v → Said options f m g p w → v ≡ w
said_once options f m g p v w x y (no_first e) (no_first d) = refl
said_once options f m g p v w x y (no_first e) (no_second c d) = absurd (no_code m e c)
said_once options f m g p v w x y (no_first e) (first_refused other c d l) = absurd (no_code m e c)
said_once options f m g p v w x y (no_first e) (second_refused other c d l o) = absurd (no_code m e c)
said_once options f m g p v w x y (no_first e) (found_equal q l o) = absurd (no_code m e (form_code f m l.roots.one.form))
said_once options f m g p v w x y (no_first e) (found_other _ two q l o d) = absurd (no_code m e (form_code f m l.roots.one.form))
said_once options f m g p v w x y (no_second a e) (no_first d) = absurd (no_code m d a)
said_once options f m g p v w x y (no_second a e) (no_second c d) = refl
said_once options f m g p v w x y (no_second a e) (first_refused other c d l) = absurd (no_code p e d)
said_once options f m g p v w x y (no_second a e) (second_refused other c d l o) = absurd (no_code p e d)
said_once options f m g p v w x y (no_second a e) (found_equal q l o) = absurd (no_code p e (form_code g p l.roots.two.form))
said_once options f m g p v w x y (no_second a e) (found_other _ two q l o d) = absurd (no_code p e (form_code g p l.roots.two.form))
said_once options f m g p v w x y (first_refused cause a b h) (no_first d) = absurd (no_code m d a)
said_once options f m g p v w x y (first_refused cause a b h) (no_second c d) = absurd (no_code p d b)
said_once options f m g p v w x y (first_refused cause a b h) (first_refused other c d l) = ap (λ r. verdict.Refused side.First r) (cause_once f m cause other x h l)
said_once options f m g p v w x y (first_refused cause a b h) (second_refused other c d l o) = absurd (not_refused f m cause x h l)
said_once options f m g p v w x y (first_refused cause a b h) (found_equal q l o) = absurd (not_refused f m cause x h l.roots.one.form)
said_once options f m g p v w x y (first_refused cause a b h) (found_other _ two q l o d) = absurd (not_refused f m cause x h l.roots.one.form)
said_once options f m g p v w x y (second_refused cause a b h k) (no_first d) = absurd (no_code m d a)
said_once options f m g p v w x y (second_refused cause a b h k) (no_second c d) = absurd (no_code p d b)
said_once options f m g p v w x y (second_refused cause a b h k) (first_refused other c d l) = absurd (not_refused f m other x l h)
said_once options f m g p v w x y (second_refused cause a b h k) (second_refused other c d l o) = ap (λ r. verdict.Refused side.Second r) (cause_once g p cause other y k o)
said_once options f m g p v w x y (second_refused cause a b h k) (found_equal q l o) = absurd (not_refused g p cause y k l.roots.two.form)
said_once options f m g p v w x y (second_refused cause a b h k) (found_other _ two q l o d) = absurd (not_refused g p cause y k l.roots.two.form)
said_once options f m g p v w x y (found_equal r h is) (no_first d) = absurd (no_code m d (form_code f m h.roots.one.form))
said_once options f m g p v w x y (found_other _ one r h is e) (no_first d) = absurd (no_code m d (form_code f m h.roots.one.form))
said_once options f m g p v w x y (found_equal r h is) (no_second c d) = absurd (no_code p d (form_code g p h.roots.two.form))
said_once options f m g p v w x y (found_other _ one r h is e) (no_second c d) = absurd (no_code p d (form_code g p h.roots.two.form))
said_once options f m g p v w x y (found_equal r h is) (first_refused other c d l) = absurd (not_refused f m other x l h.roots.one.form)
said_once options f m g p v w x y (found_other _ one r h is e) (first_refused other c d l) = absurd (not_refused f m other x l h.roots.one.form)
said_once options f m g p v w x y (found_equal r h is) (second_refused other c d l o) = absurd (not_refused g p other y o h.roots.two.form)
said_once options f m g p v w x y (found_other _ one r h is e) (second_refused other c d l o) = absurd (not_refused g p other y o h.roots.two.form)
said_once options f m g p v w x y (found_equal r h is) (found_equal q l o) = refl
said_once options f m g p v w x y (found_equal r h is) (found_other _ two q l o d) = absurd (not_both options f m g p q r two x y l h o is)
said_once options f m g p v w x y (found_other _ one r h is e) (found_equal q l o) = absurd (not_both options f m g p r q one x y h l is o)
said_once options f m g p v w x y (found_other _ one r h is e) (found_other _ two q l o d) = e ∙ ap said_of (found_once options.limits f m g p r q one two x y h l is.1 o.1) ∙ sym d

verdict_once : (options : Options) (f : ClassFile) (m : Method) (g : ClassFile) (p : Method) (v w : Verdict) → HasBytes m → HasBytes p → IsVerdictOn options f m g p v → IsVerdictOn options f m g p w → v ≡ w
verdict_once options f m g p v w x y h k = said_once options f m g p v w x y (said_by options f m g p v h) (said_by options f m g p w k)

-- two methods with a least graph lack no root
pub no_lack : (f : ClassFile) (m : Method) (g : ClassFile) (p : Method) (v : Verdict) (l : Rooted) → HasBytes m → HasBytes p → HaveLeast f m g p l → LackRoots f m g p v → ⊥
no_lack f m g p (verdict.NoCode side.First) l x y h lack = no_code m lack (form_code f m h.roots.one.form)
no_lack f m g p (verdict.NoCode side.Second) l x y h lack = no_code p lack.1 (form_code g p h.roots.two.form)
no_lack f m g p (verdict.Refused side.First cause) l x y h lack = not_refused f m cause x lack.1 h.roots.one.form
no_lack f m g p (verdict.Refused side.Second cause) l x y h lack = not_refused g p cause y lack.1 h.roots.two.form
no_lack f m g p _ l x y h lack = absurd lack

-- ---- one verdict on a method

placed : (others : List Method) (i : ℕ) (p : Method) → i < length others → get_or others i p ≡ p → slice_get others i ≡ Some p
placed others i p lt is = here_again others i p lt (sym is)

same_some : (p q : Method) → ◌≡◌ {A = Option Method} (Some p) (Some q) → p ≡ q
same_some p q e = cc e

pub partner_once : (m : Method) (others : List Method) (p q : Method) → AreDistinct others → IsPartner m others p → IsPartner m others q → p ≡ q
partner_once m others p q distinct a b =
    let first = placed others a.among.0 p a.among.1 a.among.2 in
    let second = placed others b.among.0 q b.among.1 b.among.2 in
    let one = distinct a.among.0 b.among.0 p q first second (a.like.name ∙ sym b.like.name) (a.like.desc ∙ sym b.like.desc) in
    same_some p q (sym first ∙ ap (slice_get others) one ∙ second)

-- what a verdict says, by whether there is a partner
with_partner : (options : Options) (f g : ClassFile) (m : Method) (v : Verdict) → IsVerdict options f g m v → ((v ≡ verdict.Missing) × ((p : Method) → IsPartner m g.methods p → ⊥)) ⊎ ((p : Method) × IsPartner m g.methods p × IsVerdictOn options f m g p v)
with_partner options f g m verdict.Missing h = inl (refl, h)
with_partner options f g m _ h = inr h

pub line_once : (options : Options) (f g : ClassFile) (m : Method) (v w : Verdict) → AreDistinct g.methods → HasBytes m → AllByRecursion HasBytes g.methods → IsVerdict options f g m v → IsVerdict options f g m w → v ≡ w
line_once options f g m v w distinct x all h k =
    elim (with_partner options f g m v h) [
      | inl a ↦
          elim (with_partner options f g m w k) [
            | inl b ↦ a.0 ∙ sym b.0
            | inr b ↦ absurd (a.1 b.0 b.1)
          ]
      | inr a ↦
          elim (with_partner options f g m w k) [
            | inl b ↦ absurd (b.1 a.0 a.1)
            | inr b ↦ verdict_once options f m g a.0 v w x (all_at HasBytes g.methods a.0 all a.1.among) a.2 (subst (λ (p : Method). IsVerdictOn options f m g p w) (partner_once m g.methods b.0 a.0 distinct b.1 a.1) b.2)
          ]
    ]
