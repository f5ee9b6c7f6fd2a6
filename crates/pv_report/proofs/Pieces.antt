-- What is found of the methods one after another, and in pieces.
use Rattle.std.proofs.Common.{◌≡◌, ℕ, ◌<◌, List, [], ◌∷◌, ◌++◌, length, suc, sym, ap, subst, ◌∙◌, arith}
use Rattle.std.specs.Prelude.{Result, Ok, IfOk, slice_index_or}
use Rattle.std.specs.List.{AllZip}
use Rattle.std.proofs.Math.Seq.{get_or-append_seam}
use Rattle.std.proofs.lemmas.List.{length-append}
use Rattle.pv_cert.specs.declared.cert.Section.{Section}
use Rattle.pv_cert.specs.Lines.{title_text}
use Rattle.pv_class.specs.declared.file.Method.{Method}
use Rattle.pv_pieces.specs.Cut.{joined}
use Rattle.pv_report.specs.declared.judged.Judgements.{Judgements}
use Rattle.pv_report.specs.declared.pair.Pair.{Pair}
use Rattle.pv_report.specs.declared.verdict.Detail.{Detail}
use Rattle.pv_report.specs.declared.verdict.Judgement.{Judgement}
use Rattle.pv_report.specs.declared.verdict.Means.{Means}
use Rattle.pv_report.specs.declared.verdict.Verdict.{Verdict}
use Rattle.pv_report.specs.Options.{options_of}
use Rattle.pv_report.specs.Pieces.{AreJudged, AreParts}
use Rattle.pv_report.specs.Proving.{AreStepsOf, HasSteps}
use Rattle.pv_report.specs.Shown.{IsSectionOf, equivalent_of, sections_for}
use Rattle.pv_report.specs.Verdicts.{IsVerdict}
use Rattle.pv_report.proofs.Lists.{zip_length}
use Rattle.pv_report.proofs.Showing.{equivalent_append, shown_next, zip_append}

-- what is said of two lists of methods, one after the other
pub judged_more : (means : Means) (pair : Pair) (ms us : List Method) (one two both : Judgements) → AreJudged means pair ms one → AreJudged means pair us two
    → both.verdicts.items ≡ one.verdicts.items ++ two.verdicts.items → both.sections.items ≡ one.sections.items ++ two.sections.items → AreJudged means pair (ms ++ us) both
judged_more means pair ms us one two both first second vs ss = record {
  verdicts = subst (λ (l : List Verdict). AllZip Is (ms ++ us) l) (sym vs) (zip_append Is ms us one.verdicts.items two.verdicts.items first.verdicts second.verdicts);
  sections = λ wanted.
      let long = zip_length Is ms one.verdicts.items first.verdicts in
      let cut : equivalent_of (ms ++ us) both.verdicts.items ≡ equivalent_of ms one.verdicts.items ++ equivalent_of us two.verdicts.items = ap (equivalent_of (ms ++ us)) vs ∙ equivalent_append ms us one.verdicts.items two.verdicts.items long in
      subst (λ (l : List Method). AllZip Shows l both.sections.items) (sym cut)
      (subst (λ (l : List Section). AllZip Shows (equivalent_of ms one.verdicts.items ++ equivalent_of us two.verdicts.items) l) (sym ss)
      (zip_append Shows (equivalent_of ms one.verdicts.items) (equivalent_of us two.verdicts.items) one.sections.items two.sections.items (first.sections wanted) (second.sections wanted)));
}
  where
    Is : Method → Verdict → Type 0
    Is = IsVerdict (options_of means.limits means.detail) pair.first pair.second

    Shows : Method → Section → Type 0
    Shows = IsSectionOf pair.first pair.second

-- .. of no methods
pub judged_none : (means : Means) (pair : Pair) (found : Judgements) → found.verdicts.items ≡ [] → found.sections.items ≡ [] → AreJudged means pair [] found
judged_none means pair found vs ss = record {
  verdicts = subst (λ (l : List Verdict). AllZip (IsVerdict (options_of means.limits means.detail) pair.first pair.second) [] l) (sym vs) tt;
  sections = λ wanted.
      subst (λ (l : List Verdict). AllZip (IsSectionOf pair.first pair.second) (equivalent_of [] l) found.sections.items) (sym vs) (subst (λ (l : List Section). AllZip (IsSectionOf pair.first pair.second) [] l) (sym ss) tt);
}

-- what is found of a method, by its own
pub record IsJudged (means : Means) (pair : Pair) (m : Method) (found : Judgement) : Type 0 where
  pub verdict : IsVerdict (options_of means.limits means.detail) pair.first pair.second m found.verdict
  pub steps : HasSteps means.detail (AreStepsOf pair.first pair.second m) found.verdict found.steps
  pub fits : title_text.fits (m.name, m.desc)

-- .. after what is found of those before it
pub judged_next : (means : Means) (pair : Pair) (ms : List Method) (m : Method) (old new : Judgements) (found : Judgement) → AreJudged means pair ms old → IsJudged means pair m found
    → new.verdicts.items ≡ old.verdicts.items ++ found.verdict ∷ [] → new.sections.items ≡ old.sections.items ++ sections_for m found.steps → AreJudged means pair (ms ++ m ∷ []) new
judged_next means pair ms m old new found before this vs ss = record {
  verdicts = subst (λ (l : List Verdict). AllZip Is (ms ++ m ∷ []) l) (sym vs) (zip_append Is ms (m ∷ []) old.verdicts.items (found.verdict ∷ []) before.verdicts (this.verdict, tt));
  sections = λ wanted.
      let have = subst (λ (d : Detail). HasSteps d (AreStepsOf pair.first pair.second m) found.verdict found.steps) wanted this.steps in
      subst (λ (l : List Verdict). AllZip (IsSectionOf pair.first pair.second) (equivalent_of (ms ++ m ∷ []) l) new.sections.items) (sym vs)
      (subst (λ (l : List Section). AllZip (IsSectionOf pair.first pair.second) (equivalent_of (ms ++ m ∷ []) (old.verdicts.items ++ found.verdict ∷ [])) l) (sym ss)
      (shown_next pair.first pair.second ms old.verdicts.items old.sections.items m found.verdict found.steps (zip_length Is ms old.verdicts.items before.verdicts) this.fits (before.sections wanted) have));
}
  where
    Is : Method → Verdict → Type 0
    Is = IsVerdict (options_of means.limits means.detail) pair.first pair.second

-- a part after those of the pieces before it
pub part_here : {E : Type 0} (means : Means) (pair : Pair) (methods : ℕ → List Method) (all front rest : List (Result Judgements E)) (part : Result Judgements E) (more old new : Judgements)
    → front ++ part ∷ rest ≡ all → AreParts means pair methods all → part ≡ Ok more → AreJudged means pair (joined methods (length front)) old
    → new.verdicts.items ≡ old.verdicts.items ++ more.verdicts.items → new.sections.items ≡ old.sections.items ++ more.sections.items
    → AreJudged means pair (joined methods (length (front ++ part ∷ []))) new
part_here {E} means pair methods all front rest part more old new cut are was so_far vs ss =
    let same : slice_index_or all (length front) part ≡ part = subst (λ (l : List (Result Judgements E)). slice_index_or l (length front) part ≡ part) cut (get_or-append_seam front part rest part) in
    let within : length front < length all = omega (arith, sym (ap length cut), length-append front (part ∷ rest)) in
    let this : AreJudged means pair (methods (length front)) more = subst (λ (p : Result Judgements E). IfOk p (AreJudged means pair (methods (length front)))) (same ∙ was) (are (length front) part within) in
    let longer : suc (length front) ≡ length (front ++ part ∷ []) = omega (arith, length-append front (part ∷ [])) in
    subst (λ (n : ℕ). AreJudged means pair (joined methods n) new) longer (judged_more means pair (joined methods (length front)) (methods (length front)) old more new so_far this vs ss)
