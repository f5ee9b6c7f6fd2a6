-- What is said of a text that is to be a certificate of version 1, how that went, and the certificate of version 2 that is placed for it.
use Rattle.std.specs.Prelude.{◌≡◌, ℕ, ◌<◌, ◌≤◌, List, [], ◌∷◌, codes, decimal, length}
use Rattle.pv_cert.specs.declared.cert.Version.TheVariants.{One, Two}
use Rattle.pv_cert.specs.declared.cert.Cert.{Cert}
use Rattle.pv_cert.specs.BadCerts.{BadCert}
use Rattle.pv_cert.specs.Certificates.{Fits, spelled}
use Rattle.pv_report.specs.Lines.{in_words, line_text}
use Rattle.pv_report.specs.declared.status.Status.{Status}
use Rattle.pv_report.specs.declared.status.Status.TheVariants as status
use Rattle.pv_sections.specs.declared.certificate.TheConstants.{LONGEST_CERT}
use Rattle.pv_sections.specs.declared.flaw.Flaw.{Flaw}
use Rattle.pv_sections.specs.declared.flaw.Flaw.TheVariants.{TooLong, Unread}
use Rattle.pv_sections.specs.Lines.{bad_certificate}

-- the text is that of a certificate of version 1, and not too long
pub record IsCert1 (text : List ℕ) (c : Cert) : Type 0 where
  pub short : length text ≤ LONGEST_CERT
  pub fits : Fits One c
  pub spelled_ : text ≡ spelled One c

-- why it is none
abbrev pub IsFlaw1 : List ℕ → Flaw → Type 0
IsFlaw1 text TooLong = LONGEST_CERT < length text
IsFlaw1 text (Unread f) = (length text ≤ LONGEST_CERT) × BadCert One text f
IsFlaw1 text f = ⊥

-- the text is the spelling in version 2, which it has, of the certificate that the old text is in version 1
pub record IsMigrated (old text : List ℕ) : Type 0 where
  pub certificate : Cert
  pub certificate_is : IsCert1 old certificate
  pub fits : Fits Two certificate
  pub spelled_ : text ≡ spelled Two certificate

-- the line on a certificate with so many sections
abbrev pub migrated_line : ℕ → List ℕ
migrated_line count = line_text (in_words (codes "migrated" ∷ decimal count ∷ codes "sections" ∷ []))

-- The line on the bytes of a text, and the status: how many sections its certificate has; or why it is none.
abbrev pub Migrated : List ℕ → List ℕ → Status → Type 0
Migrated old said status.AllEquivalent = (c : Cert) × IsCert1 old c × (said ≡ migrated_line (length c.sections))
Migrated old said status.BadCert = (f : Flaw) × IsFlaw1 old f × (said ≡ bad_certificate f)
Migrated old said s = ⊥
