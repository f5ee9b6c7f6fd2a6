-- What is said of two files that were fetched.
use Rattle.std.proofs.Common.{◌≡◌, ℕ, List, Option, Some, None, Ok, Err, inl, inr, refl, subst, sym}
use Rattle.std.specs.List.{AllZip, flat_map}
use Rattle.pv_cert.specs.declared.cert.Section.{Section}
use Rattle.pv_class.specs.declared.fault.ClassFault.{ClassFault}
use Rattle.pv_certify.specs.Searched.{Limits}
use Rattle.pv_report.specs.Options.{Options, in_least}
use Rattle.pv_report.specs.declared.pair.Fetched.{Fetched}
use Rattle.pv_report.specs.declared.pair.Pair.{Pair}
use Rattle.pv_report.specs.declared.pair.BadClass.{BadClass}
use Rattle.pv_report.specs.declared.status.Status.{Status}
use Rattle.pv_report.specs.declared.status.Status.TheVariants as status
use Rattle.pv_report.specs.declared.verdict.Detail.{Detail}
use Rattle.pv_report.specs.declared.verdict.Detail.TheVariants as detail
use Rattle.pv_report.specs.declared.verdict.Graphs.{Graphs}
use Rattle.pv_report.specs.declared.verdict.Side.{Side}
use Rattle.pv_report.specs.declared.verdict.Side.TheVariants as side
use Rattle.pv_report.specs.declared.verdict.Verdict.{Verdict}
use Rattle.pv_report.specs.Verdicts.{IsVerdict}
use Rattle.pv_report.specs.Lines.{bad_class, line_text}
use Rattle.pv_report.specs.Report.{IsBadPair, IsReport, IsStatusOf, Judged, lines_of}
use Rattle.pv_report.specs.Judging.{IsBadSide, JudgesFetched, ReadsPair}
use Rattle.pv_report.specs.Shown.{IsSectionOf, equivalent_of}
use Rattle.pv_report.specs.Proving.{ShowsFetched}

-- one of the two files has no reading
pub bad_pair : (a b : List ℕ) (s : Side) (f : ClassFault) (text : List ℕ) → IsBadSide a b s f → text ≡ bad_class s f → IsBadPair a b text
bad_pair a b side.First f text bad e = inl (f, bad, e)
bad_pair a b side.Second f text bad e = inr (bad.0, (f, bad.1, e))

pub bad_file : (options : Options) (first second : Fetched) (bad : BadClass) (text : List ℕ) (s : Status) → ReadsPair first second (Err bad) → text ≡ bad_class bad.side bad.fault → s ≡ status.BadClass → JudgesFetched options first second text s
bad_file options first second bad text s read e is a b p q = subst (λ (x : Status). Judged options a b text x) (sym is) (bad_pair a b bad.side bad.fault text (read a b p q) e)

judged_by : (options : Options) (a b text : List ℕ) (verdicts : List Verdict) (s : Status) → IsReport options a b verdicts text → IsStatusOf verdicts s → Judged options a b text s
judged_by options a b text verdicts status.AllEquivalent r is = (verdicts, r, is)
judged_by options a b text verdicts status.Others r is = (verdicts, r, is)
judged_by options a b text verdicts _ r is = absurd is

-- both have one, and these are the verdicts
pub judges : (options : Options) (first second : Fetched) (pair : Pair) (verdicts : List Verdict) (text : List ℕ) (s : Status) → ReadsPair first second (Ok pair) → AllZip (IsVerdict options pair.first pair.second) pair.first.methods verdicts
    → text ≡ flat_map line_text (lines_of pair.first.methods verdicts) → IsStatusOf verdicts s → JudgesFetched options first second text s
judges options first second pair verdicts text s read each e is a b p q =
    let both = read a b p q in
    judged_by options a b text verdicts s (record { first = pair.first; second = pair.second; first_is = both.0; second_is = both.1; each = each; text_is = e }) is

-- a report is no bad class
pub report_status : (verdicts : List Verdict) (s : Status) → IsStatusOf verdicts s → s ≡ status.BadClass → ⊥
report_status verdicts s is e = subst (IsStatusOf verdicts) e is

-- both have one, and these are the sections
pub shows : (limits : Limits) (first second : Fetched) (pair : Pair) (verdicts : List Verdict) (sections : List Section) → ReadsPair first second (Ok pair) → AllZip (IsVerdict (in_least limits) pair.first pair.second) pair.first.methods verdicts
    → AllZip (IsSectionOf pair.first pair.second) (equivalent_of pair.first.methods verdicts) sections → ShowsFetched limits first second (Some sections)
shows limits first second pair verdicts sections read each are a b p q =
    let both = read a b p q in
    record { first = pair.first; second = pair.second; first_is = both.0; second_is = both.1; verdicts = verdicts; each = each; sections_are = are }

-- .. where they are wanted
pub wanted_show : (w : Detail) (limits : Limits) (first second : Fetched) (sections : List Section) (given : Option (List Section)) → (w ≡ detail.Steps → given ≡ Some sections) → ((graphs : Graphs) → w ≡ detail.Verdict graphs → given ≡ None)
    → (w ≡ detail.Steps → ShowsFetched limits first second (Some sections)) → ShowsFetched limits first second given
wanted_show detail.Steps limits first second sections given some none h = subst (ShowsFetched limits first second) (sym (some refl)) (h refl)
wanted_show (detail.Verdict graphs) limits first second sections given some none h = subst (ShowsFetched limits first second) (sym (none graphs refl)) tt
