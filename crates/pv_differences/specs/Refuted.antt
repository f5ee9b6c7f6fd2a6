-- What is said of the bytes of two files, and how that went.
use Rattle.std.specs.Prelude.{◌≡◌, ◌≢◌, ℕ, List, []}
use Rattle.pv_class.specs.declared.file.ClassFile.{ClassFile}
use Rattle.pv_class.specs.ClassFiles.{IsClass}
use Rattle.pv_report.specs.declared.status.Status.{Status}
use Rattle.pv_report.specs.declared.status.Status.TheVariants.{AllEquivalent, Others, BadClass}
use Rattle.pv_report.specs.Listed.{AreLines}
use Rattle.pv_report.specs.Report.{IsBadPair}
use Rattle.pv_differences.specs.declared.finding.Finding.{Finding}
use Rattle.pv_differences.specs.declared.finding.RunLimits.{RunLimits}
use Rattle.pv_differences.specs.Findings.{IsFinding}
use Rattle.pv_differences.specs.Lines.{line_of}

-- one line for each method of the first file, in its order, with these findings, within these limits
pub record IsReport (limits : RunLimits) (a b : List ℕ) (findings : List Finding) (text : List ℕ) : Type 0 where
  pub first : ClassFile
  pub second : ClassFile
  pub first_is : IsClass a first
  pub second_is : IsClass b second
  pub lines : AreLines (IsFinding limits first second) line_of first.methods findings text

-- no finding says that two methods are equivalent: where there is one, the status is that of other lines
abbrev pub IsStatusOf : List Finding → Status → Type 0
IsStatusOf findings AllEquivalent = findings ≡ []
IsStatusOf findings Others = findings ≢ []
IsStatusOf findings s = ⊥

-- The text for the bytes of two files, and the status: a report, or the first of the two that has no reading.
abbrev pub Refuted : RunLimits → List ℕ → List ℕ → List ℕ → Status → Type 0
Refuted limits a b text BadClass = IsBadPair a b text
Refuted limits a b text s = (findings : List Finding) × IsReport limits a b findings text × IsStatusOf findings s
