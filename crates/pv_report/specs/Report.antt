-- What is said of the bytes of two files, and how that went.
use Rattle.std.specs.Prelude.{◌≡◌, ◌⊎◌, ℕ, List}
use Rattle.std.specs.List.{AllByRecursion, AllZip, flat_map}
use Rattle.pv_class.specs.declared.file.Method.{Method}
use Rattle.pv_class.specs.declared.file.ClassFile.{ClassFile}
use Rattle.pv_class.specs.declared.fault.ClassFault.{ClassFault}
use Rattle.pv_class.specs.ClassFiles.{IsClass}
use Rattle.pv_class.specs.ClassFaults.{IsBad}
use Rattle.pv_report.specs.Options.{Options}
use Rattle.pv_report.specs.declared.verdict.Side.{Side}
use Rattle.pv_report.specs.declared.verdict.Side.TheVariants as side
use Rattle.pv_report.specs.declared.verdict.Verdict.{Verdict}
use Rattle.pv_report.specs.declared.verdict.Verdict.TheVariants.{Equivalent}
use Rattle.pv_report.specs.declared.status.Status.{Status}
use Rattle.pv_report.specs.declared.status.Status.TheVariants as status
use Rattle.pv_report.specs.Verdicts.{IsVerdict}
use Rattle.pv_report.specs.Lines.{line_of, line_text, bad_class}
use Rattle.pv_report.specs.Listed.{lines_by}

abbrev pub lines_of : List Method → List Verdict → List (List ℕ)
lines_of methods verdicts = lines_by line_of methods verdicts

-- one line for each method of the first file, in its order, with these verdicts, by these options
pub record IsReport (options : Options) (a b : List ℕ) (verdicts : List Verdict) (text : List ℕ) : Type 0 where
  pub first : ClassFile
  pub second : ClassFile
  pub first_is : IsClass a first
  pub second_is : IsClass b second
  pub each : AllZip (IsVerdict options first second) first.methods verdicts
  pub text_is : text ≡ flat_map line_text (lines_of first.methods verdicts)

abbrev pub AreEquivalent : List Verdict → Type 0
AreEquivalent verdicts = AllByRecursion (λ v. v ≡ Equivalent) verdicts

abbrev pub HasClass : List ℕ → Type 0
HasClass bytes = (file : ClassFile) × IsClass bytes file

-- the file has no reading, and this is said of its fault
abbrev pub IsBadText : Side → List ℕ → List ℕ → Type 0
IsBadText s bytes text = (f : ClassFault) × IsBad bytes f × (text ≡ bad_class s f)

-- each verdict says `equivalent`, or some says something else
abbrev pub IsStatusOf : List Verdict → Status → Type 0
IsStatusOf verdicts status.AllEquivalent = AreEquivalent verdicts
IsStatusOf verdicts status.Others = AreEquivalent verdicts → ⊥
IsStatusOf verdicts s = ⊥

-- the first of the two files that has no reading, and what is said of it
abbrev pub IsBadPair : List ℕ → List ℕ → List ℕ → Type 0
IsBadPair a b text = IsBadText side.First a text ⊎ (HasClass a × IsBadText side.Second b text)

-- The text for the bytes of two files, and the status: a report, or the first of the two that has no reading.
abbrev pub Judged : Options → List ℕ → List ℕ → List ℕ → Status → Type 0
Judged options a b text status.BadClass = IsBadPair a b text
Judged options a b text s = (verdicts : List Verdict) × IsReport options a b verdicts text × IsStatusOf verdicts s
