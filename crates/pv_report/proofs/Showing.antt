-- The sections of the methods that are shown to be equivalent.
use Rattle.std.proofs.Common.{◌≡◌, ℕ, List, [], ◌∷◌, ◌++◌, length, Option, Some, None, Result, Ok, Err, inl, refl, arith, ap, subst, sym}
use Rattle.std.specs.Prelude.{IfOk, slice_get}
use Rattle.std.specs.List.{AllZip}
use Rattle.pv_value.specs.declared.memory.Memory.{Memory}
use Rattle.pv_alike.specs.Least.{Rooted}
use Rattle.pv_cert.specs.declared.cert.Section.{Section}
use Rattle.pv_cert.specs.Lines.{title_text}
use Rattle.pv_class.specs.declared.file.ClassFile.{ClassFile}
use Rattle.pv_class.specs.declared.file.Method.{Method}
use Rattle.pv_certify.specs.Searched.{Outcome}
use Rattle.pv_certify.specs.Searched as outcome
use Rattle.pv_certify.specs.Searched.{verdict_of}
use Rattle.pv_steps.specs.declared.step.Step.{Step}
use Rattle.pv_report.specs.declared.verdict.Judgement.{Judgement}
use Rattle.pv_report.specs.declared.verdict.Verdict.{Verdict}
use Rattle.pv_report.specs.declared.verdict.Verdict.TheVariants as verdict
use Rattle.pv_report.specs.declared.verdict.Detail.{Detail}
use Rattle.pv_report.specs.declared.verdict.Detail.TheVariants as detail
use Rattle.pv_report.specs.Partners.{IsPartner}
use Rattle.pv_report.specs.Roots.{HaveLeast}
use Rattle.pv_report.specs.Judging.{IsLeastOnPlaces, said_of, IsLikeAt}
use Rattle.pv_report.specs.Verdicts.{LackRoots}
use Rattle.pv_report.specs.Shown.{IsSectionOf, equivalent_of, sections_for}
use Rattle.pv_report.specs.Proving.{AreStepsFor, HasSteps, IsStepsOf, IsProvedBy, AreStepsOn, IsProvedOnPlaces, AreStepsOf, IsProvedAt}
use Rattle.pv_report.proofs.Places.{contains_here, slice_once}

-- ---- steps, from the least graph to the methods

-- what is so of the steps may be said in other words
has_steps : (w : Detail) (Is To : List Step → Type 0) → ((steps : List Step) → Is steps → To steps) → (v : Verdict) (steps : Option (List Step)) → HasSteps w Is v steps → HasSteps w To v steps
has_steps detail.Steps Is To go verdict.Equivalent (Some steps) h = go steps h
has_steps detail.Steps Is To go verdict.Equivalent None h = h
has_steps _ Is To go _ steps h = h

-- a verdict that isn't `equivalent` has none
pub bare_steps : (w : Detail) (Is : List Step → Type 0) (v : Verdict) (steps : Option (List Step)) → (v ≡ verdict.Equivalent → ⊥) → steps ≡ None → HasSteps w Is v steps
bare_steps detail.Steps Is verdict.Equivalent steps other none = absurd (other refl)
bare_steps _ Is _ steps other none = none

-- roots that are one node need none
pub no_steps : (w : Detail) (l : Rooted) (steps : Option (List Step)) → l.first ≡ l.second → HasSteps w (λ x. x ≡ []) verdict.Equivalent steps → HasSteps w (AreStepsFor l) verdict.Equivalent steps
no_steps w l steps one h = has_steps w (λ x. x ≡ []) (AreStepsFor l) (λ x e. subst (AreStepsFor l) (sym e) none) verdict.Equivalent steps h
  where
    none : AreStepsFor l []
    none = record { derives = (tt, (refl, inl one)); lean = λ j low up. absurd (omega (arith, up)); spelled = tt }

-- what a search found
pub found_steps : (w : Detail) (l : Rooted) (outcome : Outcome) (steps : Option (List Step)) → IsStepsOf w l outcome steps → HasSteps w (AreStepsFor l) (said_of (verdict_of outcome)) steps
found_steps w l (outcome.Met m) steps h = h
found_steps w l (outcome.Budget k) steps h = bare_steps w (AreStepsFor l) (said_of (verdict_of (outcome.Budget k))) steps (λ e. cc e) h
found_steps w l outcome.Apart steps h = bare_steps w (AreStepsFor l) (said_of (verdict_of outcome.Apart)) steps (λ e. cc e) h
found_steps w l (outcome.Rounds n) steps h = bare_steps w (AreStepsFor l) (said_of (verdict_of (outcome.Rounds n))) steps (λ e. cc e) h

pub steps_by : (w : Detail) (l : Rooted) (outcome : Outcome) (v : Verdict) (steps : Option (List Step)) → v ≡ said_of (verdict_of outcome) → IsStepsOf w l outcome steps → HasSteps w (AreStepsFor l) v steps
steps_by w l outcome v steps e h = subst (λ (x : Verdict). HasSteps w (AreStepsFor l) x steps) (sym e) (found_steps w l outcome steps h)

on_methods : (first : ClassFile) (m : Method) (second : ClassFile) (p : Method) (l : Rooted) → HaveLeast first m second p l → (steps : List Step) → AreStepsFor l steps → AreStepsOn first m second p steps
on_methods first m second p l least steps h = record { shows = (l, least, h.derives); lean = h.lean; spelled = h.spelled }

-- the steps by the least graph of two methods at their places are steps for these
pub steps_on_places : (w : Detail) (first second : ClassFile) (k j : ℕ) (l : Rooted) (r : Result Judgement Memory) → IsLeastOnPlaces first k second j (Ok l) → IfOk r (λ f. IsProvedBy w l f) → IfOk r (λ f. IsProvedOnPlaces w first k second j f)
steps_on_places w first second k j l (Ok f) h by = λ m p here there. has_steps w (AreStepsFor l) (AreStepsOn first m second p) (on_methods first m second p l (h m p here there)) f.verdict f.steps by
steps_on_places w first second k j l (Err e) h by = tt

-- two methods that don't both have a root are not equivalent
pub lacking_other : (f : ClassFile) (m : Method) (g : ClassFile) (p : Method) (v : Verdict) → LackRoots f m g p v → v ≡ verdict.Equivalent → ⊥
lacking_other f m g p v is e = subst (LackRoots f m g p) e is

-- the steps for a method and its partner at their places are steps for the method
pub steps_at : (w : Detail) (f g : ClassFile) (place other : ℕ) (m : Method) (r : Result Judgement Memory) → slice_get f.methods place ≡ Some m → IsLikeAt m g.methods other → IfOk r (λ x. IsProvedOnPlaces w f place g other x) → IfOk r (λ x. IsProvedAt w f place g x)
steps_at w f g place other m (Ok x) here like h =
    λ n at. let same = slice_once f.methods place m n here at in
    let partner : IsPartner m g.methods like.0 = record { among = contains_here g.methods other like.0 like.1; like = like.2 } in
    subst (λ (y : Method). HasSteps w (AreStepsOf f g y) x.verdict x.steps) same
    (has_steps w (AreStepsOn f m g like.0) (AreStepsOf f g m) (λ steps on. (like.0, partner, on)) x.verdict x.steps (h m like.0 here like.1))
steps_at w f g place other m (Err e) here like h = tt

-- ---- sections, method by method

pub zip_append : {X Y : Type 0} (Is : X → Y → Type 0) (xs us : List X) (ys vs : List Y) → AllZip Is xs ys → AllZip Is us vs → AllZip Is (xs ++ us) (ys ++ vs)
zip_append Is [] us [] vs h k = k
zip_append Is (x ∷ xs) us (y ∷ ys) vs h k = (h.0, zip_append Is xs us ys vs h.1 k)
zip_append Is _ us _ vs h k = absurd h

-- the methods of two lists, one after the other
pub equivalent_append : (ms us : List Method) (vs ws : List Verdict) → length vs ≡ length ms → equivalent_of (ms ++ us) (vs ++ ws) ≡ equivalent_of ms vs ++ equivalent_of us ws
equivalent_append [] us [] ws e = refl
equivalent_append [] us (v ∷ vs) ws e = absurd (cc e)
equivalent_append (m ∷ ms) us [] ws e = absurd (cc e)
equivalent_append (m ∷ ms) us (verdict.Equivalent ∷ vs) ws e = ap (λ (l : List Method). m ∷ l) (equivalent_append ms us vs ws (cc e))
equivalent_append (m ∷ ms) us (v ∷ vs) ws e = equivalent_append ms us vs ws (cc e)

-- the section of one method
one_shown : (first second : ClassFile) (m : Method) (v : Verdict) (steps : Option (List Step)) → title_text.fits (m.name, m.desc) → HasSteps detail.Steps (AreStepsOf first second m) v steps
    → AllZip (IsSectionOf first second) (equivalent_of (m ∷ []) (v ∷ [])) (sections_for m steps)
one_shown first second m verdict.Equivalent (Some steps) fits h =
    (record { name = refl; desc = refl; partner = h.0; partner_is = h.1; shows = h.2.shows; lean = h.2.lean; fits = record { title = fits; steps = h.2.spelled } }, tt)
one_shown first second m verdict.Equivalent None fits h = absurd h
one_shown first second m v steps fits h = subst (λ (s : Option (List Step)). AllZip (IsSectionOf first second) (equivalent_of (m ∷ []) (v ∷ [])) (sections_for m s)) (sym h) tt

-- .. after those of the methods before it
pub shown_next : (first second : ClassFile) (ms : List Method) (vs : List Verdict) (sections : List Section) (m : Method) (v : Verdict) (steps : Option (List Step)) → length vs ≡ length ms → title_text.fits (m.name, m.desc)
    → AllZip (IsSectionOf first second) (equivalent_of ms vs) sections → HasSteps detail.Steps (AreStepsOf first second m) v steps
    → AllZip (IsSectionOf first second) (equivalent_of (ms ++ m ∷ []) (vs ++ v ∷ [])) (sections ++ sections_for m steps)
shown_next first second ms vs sections m v steps long fits all h =
    subst (λ (l : List Method). AllZip (IsSectionOf first second) l (sections ++ sections_for m steps)) (sym (equivalent_append ms (m ∷ []) vs (v ∷ []) long))
    (zip_append (IsSectionOf first second) (equivalent_of ms vs) (equivalent_of (m ∷ []) (v ∷ [])) sections (sections_for m steps) all (one_shown first second m v steps fits h))
