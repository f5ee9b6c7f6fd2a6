-- Why a certificate is not one for two files: the first of these cases that holds.
use Rattle.std.specs.Prelude.{◌≡◌, ◌≢◌, ℕ, ◌<◌, ◌≤◌, List, length}
use Rattle.sha2.specs.Sha256.{sha256}
use Rattle.pv_cert.specs.declared.cert.Cert.{Cert}
use Rattle.pv_cert.specs.declared.cert.Version.TheVariants.{Two}
use Rattle.pv_cert.specs.BadCerts.{BadCert}
use Rattle.pv_cert.specs.Certificates.{Fits, spelled}
use Rattle.pv_report.specs.declared.verdict.Side.TheVariants.{First, Second}
use Rattle.pv_sections.specs.declared.certificate.TheConstants.{LONGEST_CERT}
use Rattle.pv_sections.specs.declared.flaw.Flaw.{Flaw}
use Rattle.pv_sections.specs.declared.flaw.Flaw.TheVariants.{TooLong, Unread, OtherFile}

-- the text is that of a certificate in version 2, and not too long
pub record IsCert (text : List ℕ) (c : Cert) : Type 0 where
  pub short : length text ≤ LONGEST_CERT
  pub fits : Fits Two c
  pub spelled_ : text ≡ spelled Two c

-- the certificate names the file with these bytes on its first side, by the digest of FIPS 180-4, SHA-256
abbrev pub NamesFirst : Cert → List ℕ → Type 0
NamesFirst c a = c.first ≡ sha256 a

abbrev pub NamesSecond : Cert → List ℕ → Type 0
NamesSecond c b = c.second ≡ sha256 b

abbrev pub IsFlaw : List ℕ → List ℕ → List ℕ → Flaw → Type 0
IsFlaw a b text TooLong = LONGEST_CERT < length text
IsFlaw a b text (Unread f) = (length text ≤ LONGEST_CERT) × BadCert Two text f
IsFlaw a b text (OtherFile First written actual) = (c : Cert) × IsCert text c × (c.first ≡ written) × (actual ≡ sha256 a) × (written ≢ actual)
IsFlaw a b text (OtherFile Second written actual) = (c : Cert) × IsCert text c × NamesFirst c a × (c.second ≡ written) × (actual ≡ sha256 b) × (written ≢ actual)
