-- What is said of two files and a certificate, and how that went.
use Rattle.std.specs.Prelude.{◌≡◌, ℕ, List}
use Rattle.std.specs.List.{AllByRecursion}
use Rattle.pv_class.specs.declared.file.ClassFile.{ClassFile}
use Rattle.pv_class.specs.ClassFiles.{IsClass}
use Rattle.pv_cert.specs.declared.cert.Cert.{Cert}
use Rattle.pv_report.specs.declared.verdict.Verdict.TheVariants.{Equivalent}
use Rattle.pv_report.specs.Listed.{AreLines}
use Rattle.pv_report.specs.Report.{HasClass, IsBadPair}
use Rattle.pv_sections.specs.declared.finding.Finding.{Finding}
use Rattle.pv_sections.specs.declared.finding.Finding.TheVariants.{Verdict}
use Rattle.pv_sections.specs.declared.flaw.Flaw.{Flaw}
use Rattle.pv_report.specs.declared.status.Status.{Status}
use Rattle.pv_report.specs.declared.status.Status.TheVariants.{AllEquivalent, Others, BadClass, BadCert}
use Rattle.pv_sections.specs.Findings.{IsFinding}
use Rattle.pv_sections.specs.Flaws.{IsCert, NamesFirst, NamesSecond, IsFlaw}
use Rattle.pv_sections.specs.Lines.{section_line, bad_certificate}

-- one line for each section of the certificate, in its order, with these findings, which go by the lemmas of the certificate
pub record IsCertReport (a b cert : List ℕ) (findings : List Finding) (text : List ℕ) : Type 0 where
  pub first : ClassFile
  pub second : ClassFile
  pub first_is : IsClass a first
  pub second_is : IsClass b second
  pub certificate : Cert
  pub certificate_is : IsCert cert certificate
  pub names_first : NamesFirst certificate a
  pub names_second : NamesSecond certificate b
  pub lines : AreLines (IsFinding certificate.lemmas first second) section_line certificate.sections findings text

-- this is what a line `.. equivalent` says
abbrev pub SaysEquivalent : Finding → Type 0
SaysEquivalent f = f ≡ Verdict Equivalent

-- each line says `equivalent`, or some says something else
abbrev pub IsStatusOf : List Finding → Status → Type 0
IsStatusOf findings AllEquivalent = AllByRecursion SaysEquivalent findings
IsStatusOf findings Others = AllByRecursion SaysEquivalent findings → ⊥
IsStatusOf findings s = ⊥

-- The text for the bytes of two files and of a certificate, and the status: a report; or the first of the two files that
-- has no reading; or why the certificate is not one for them.
abbrev pub Ruled : List ℕ → List ℕ → List ℕ → List ℕ → Status → Type 0
Ruled a b cert text BadClass = IsBadPair a b text
Ruled a b cert text BadCert = HasClass a × HasClass b × (f : Flaw) × IsFlaw a b cert f × (text ≡ bad_certificate f)
Ruled a b cert text s = (findings : List Finding) × IsCertReport a b cert findings text × IsStatusOf findings s
