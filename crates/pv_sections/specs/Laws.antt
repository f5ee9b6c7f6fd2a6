-- Laws of the reports on certificates.
use Rattle.std.specs.Prelude.{◌≡◌, ℕ, ◌≤◌, List, length}
use Rattle.pv_base.specs.Stored.{AreBytes}
use Rattle.pv_report.specs.Options.{Limits}
use Rattle.pv_report.specs.declared.status.Status.{Status}
use Rattle.pv_report.specs.declared.status.Status.TheVariants.{AllEquivalent}
use Rattle.pv_sections.specs.declared.certificate.TheConstants.{LONGEST_CERT}
use Rattle.pv_sections.specs.Certified.{IsCertificateFor}
use Rattle.pv_sections.specs.Ruled.{Ruled}

-- of the certificate that shows a report on two files, each line on its sections says `equivalent`, if it isn't too long to be read
abbrev pub CertifiedAccepted : Type 0
CertifiedAccepted = (limits : Limits) (a b cert text : List ℕ) (s : Status) → AreBytes a → AreBytes b → IsCertificateFor limits a b cert → length cert ≤ LONGEST_CERT → Ruled a b cert text s → s ≡ AllEquivalent
