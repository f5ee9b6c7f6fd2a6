-- Looking for the partner of a method by its name and its descriptor, and the verdict on the two.
use Rattle.std.proofs.Common.{◌≡◌, ℕ, Bool, true, false, List, Some, None, Result, Ok, Err, refl, sym, subst, ◌∙◌}
use Rattle.std.specs.Bool.{beq}
use Rattle.std.specs.Prelude.{slice_get, IfOk}
use Rattle.pv_class.specs.declared.file.Method.{Method}
use Rattle.pv_class.specs.ClassFiles.{AreDistinct}
use Rattle.pv_class.specs.Places.{IsNamedAt, IsPlaceOf}
use Rattle.pv_value.specs.declared.memory.Memory.{Memory}
use Rattle.pv_class.specs.declared.file.ClassFile.{ClassFile}
use Rattle.pv_frame.specs.Programs.{is_instance}
use Rattle.pv_report.specs.Options.{Options}
use Rattle.pv_report.specs.declared.verdict.Judgement.{Judgement}
use Rattle.pv_report.specs.declared.verdict.Verdict.{Verdict}
use Rattle.pv_report.specs.declared.verdict.Verdict.TheVariants as verdict
use Rattle.pv_report.specs.Verdicts.{LackRoots, IsVerdict, IsVerdictOn}
use Rattle.pv_report.specs.Partners.{IsPartner}
use Rattle.pv_report.specs.Judging.{IsVerdictAt, IsVerdictOnPlaces, IsLikeAt}
use Rattle.pv_report.proofs.Places.{contains_here, place_of, slice_once}

-- ---- the method with the name and the descriptor of another

pub beq_same : (a b : Bool) → beq a b ≡ true → a ≡ b
beq_same true true e = refl
beq_same false false e = refl
beq_same true false e = absurd (cc e)
beq_same false true e = absurd (cc e)

pub same_beq : (a b : Bool) → a ≡ b → beq a b ≡ true
same_beq true true e = refl
same_beq false false e = refl
same_beq true false e = absurd (cc e)
same_beq false true e = absurd (cc e)

-- a partner stands where the name and the descriptor do
partner_here : (m : Method) (others : List Method) (k : ℕ) (p : Method) → AreDistinct others → IsNamedAt others m.name m.desc k → IsPartner m others p → slice_get others k ≡ Some p
partner_here m others k p distinct h is =
    let place = place_of others p is.among in
    let one : place.0 ≡ k = distinct place.0 k p h.0 place.1 h.1 (is.like.name ∙ sym h.2) (is.like.desc ∙ sym h.3) in
    subst (λ (i : ℕ). slice_get others i ≡ Some p) one place.1

-- the method there is the partner, if it is of the same kind
pub like_there : (m : Method) (others : List Method) (k : ℕ) (x : Method) → slice_get others k ≡ Some x → IsNamedAt others m.name m.desc k → is_instance x.flags ≡ is_instance m.flags → IsLikeAt m others k
like_there m others k x at h same =
    let one : h.0 ≡ x = slice_once others k h.0 x h.1 at in
    (h.0, h.1, record { name = h.2; desc = h.3; static = subst (λ (n : Method). is_instance n.flags ≡ is_instance m.flags) (sym one) same })

pub other_kind : (m : Method) (others : List Method) (k : ℕ) (x : Method) → AreDistinct others → slice_get others k ≡ Some x → IsNamedAt others m.name m.desc k → (is_instance x.flags ≡ is_instance m.flags → ⊥) → (p : Method) → IsPartner m others p → ⊥
other_kind m others k x distinct at h other p is =
    let one : p ≡ x = slice_once others k p x (partner_here m others k p distinct h is) at in
    other (subst (λ (n : Method). is_instance n.flags ≡ is_instance m.flags) one is.like.static)

-- where no method has them, there is none
pub none_there : (m : Method) (others : List Method) → IsPlaceOf others m.name m.desc None → (p : Method) → IsPartner m others p → ⊥
none_there m others none p is = let place = place_of others p is.among in none place.0 (p, place.1, is.like.name, is.like.desc)

-- ---- verdicts

-- a verdict without two roots is one
pub verdict_lacking : (options : Options) (f : ClassFile) (m : Method) (g : ClassFile) (p : Method) (v : Verdict) → LackRoots f m g p v → IsVerdictOn options f m g p v
verdict_lacking options f m g p verdict.Equivalent is = absurd is
verdict_lacking options f m g p verdict.Apart is = absurd is
verdict_lacking options f m g p (verdict.Rounds n) is = absurd is
verdict_lacking options f m g p (verdict.Budget k) is = absurd is
verdict_lacking options f m g p _ is = is

as_verdict : (options : Options) (f g : ClassFile) (m p : Method) (v : Verdict) → IsPartner m g.methods p → IsVerdictOn options f m g p v → IsVerdict options f g m v
as_verdict options f g m p verdict.Missing partner on = absurd on
as_verdict options f g m p _ partner on = (p, partner, on)

-- the verdict on a method and its partner at their places is the verdict on the method
pub verdict_at : (options : Options) (f g : ClassFile) (place other : ℕ) (m : Method) (r : Result Judgement Memory) → slice_get f.methods place ≡ Some m → IsLikeAt m g.methods other → IfOk r (λ x. IsVerdictOnPlaces options f place g other x.verdict)
    → IfOk r (λ x. IsVerdictAt options f place g x.verdict)
verdict_at options f g place other m (Ok x) here like h =
    λ n at. let same = slice_once f.methods place m n here at in
    subst (λ (y : Method). IsVerdict options f g y x.verdict) same
    (as_verdict options f g m like.0 x.verdict (record { among = contains_here g.methods other like.0 like.1; like = like.2 }) (h m like.0 here like.1))
verdict_at options f g place other m (Err e) here like h = tt
