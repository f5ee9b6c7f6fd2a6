-- What was fetched and read, and what is said of it.
use Rattle.std.specs.Prelude.{◌≡◌, ◌≢◌, ℕ, List, Option, Some, None, Result, Ok, Err, slice_get}
use Rattle.sha2.specs.Sha256.{sha256}
use Rattle.pv_alike.specs.Least.{Rooted}
use Rattle.pv_class.specs.declared.file.ClassFile.{ClassFile}
use Rattle.pv_class.specs.declared.file.Method.{Method}
use Rattle.pv_cert.specs.declared.cert.Cert.{Cert}
use Rattle.pv_cert.specs.declared.cert.Section.{Section}
use Rattle.pv_check.specs.declared.checker.Checked.{Checked}
use Rattle.pv_check.specs.declared.checker.Checked.TheVariants as checked
use Rattle.pv_lemmas.specs.Lemmas.{ByLemmas}
use Rattle.pv_steps.specs.declared.step.Lemma.{Lemma}
use Rattle.pv_steps.specs.Accepted.{Derives, Rejects}
use Rattle.pv_report.specs.declared.pair.Fetched.{Fetched}
use Rattle.pv_report.specs.declared.pair.Fetched.TheVariants.{Bytes, TooLong}
use Rattle.pv_report.specs.declared.status.Status.{Status}
use Rattle.pv_report.specs.declared.verdict.Side.TheVariants as side
use Rattle.pv_report.specs.Judging.{IsFetched, IsFetchedWithin}
use Rattle.pv_sections.specs.declared.certificate.TheConstants.{LONGEST_CERT}
use Rattle.pv_sections.specs.declared.finding.Finding.{Finding}
use Rattle.pv_sections.specs.declared.flaw.Flaw.{Flaw}
use Rattle.pv_sections.specs.declared.flaw.Flaw.TheVariants.{OtherFile}
use Rattle.pv_sections.specs.Findings.{IsFindingOn}
use Rattle.pv_sections.specs.Flaws.{IsCert, IsFlaw}
use Rattle.pv_sections.specs.Ruled.{Ruled}

-- what is said of the bytes that were fetched
abbrev pub RulesFetched : Fetched → Fetched → Fetched → List ℕ → Status → Type 0
RulesFetched first second cert text s = (a b c : List ℕ) → IsFetched first a → IsFetched second b → IsFetchedWithin LONGEST_CERT cert c → Ruled a b c text s

-- the digest of the bytes that were fetched, where they were
abbrev pub IsDigestOf : Fetched → List ℕ → Type 0
IsDigestOf (Bytes v) digest = digest ≡ sha256 v.items
IsDigestOf TooLong digest = Unit {0}

-- the certificate that some bytes are, or why they are none for any files
abbrev pub IsCertOr : List ℕ → Result Cert Flaw → Type 0
IsCertOr text (Ok c) = IsCert text c
IsCertOr text (Err f) = (a b : List ℕ) → IsFlaw a b text f

abbrev pub CertFetched : Fetched → Result Cert Flaw → Type 0
CertFetched fetched read = (bytes : List ℕ) → IsFetchedWithin LONGEST_CERT fetched bytes → IsCertOr bytes read

-- what is said of a section on two methods at their places
abbrev pub IsFindingOnPlaces : List Lemma → ClassFile → ℕ → ClassFile → ℕ → Section → Finding → Type 0
IsFindingOnPlaces lemmas first place second other s f = (m p : Method) → slice_get first.methods place ≡ Some m → slice_get second.methods other ≡ Some p → IsFindingOn lemmas first m second p s f

-- what a check of a section of a certificate with some lemmas says
abbrev pub IsChecked : List Lemma → Rooted → Section → Checked → Type 0
IsChecked lemmas l s checked.Accepted = Derives (ByLemmas lemmas) l.graph l.first l.second s.steps
IsChecked lemmas l s (checked.Rejected n) = Rejects (ByLemmas lemmas) l.graph l.first l.second s.steps n

-- the certificate names the files with these digests, or a flaw says which it doesn't
abbrev pub IsOther : Cert → List ℕ → List ℕ → Option Flaw → Type 0
IsOther c first second None = (c.first ≡ first) × (c.second ≡ second)
IsOther c first second (Some (OtherFile side.First written actual)) = (c.first ≡ written) × (actual ≡ first) × (written ≢ actual)
IsOther c first second (Some (OtherFile side.Second written actual)) = (c.first ≡ first) × (c.second ≡ written) × (actual ≡ second) × (written ≢ actual)
IsOther c first second (Some f) = ⊥
