-- Laws of the text of certificates.
use Rattle.std.specs.Prelude.{◌≡◌, ◌⊎◌, ℕ, List}
use Rattle.pv_cert.specs.declared.cert.Version.{Version}
use Rattle.pv_cert.specs.declared.cert.Cert.{Cert}
use Rattle.pv_cert.specs.declared.cert.CertFault.{CertFault}
use Rattle.pv_cert.specs.Certificates.{Fits, spelled}
use Rattle.pv_cert.specs.BadCerts.{BadCert}

-- no text is the spelling of two certificates in a version
abbrev pub SpelledOnce : Type 0
SpelledOnce = (v : Version) (c d : Cert) → Fits v c → Fits v d → spelled v c ≡ spelled v d → c ≡ d

-- a text has one fault at most, and the spelling of a certificate has none
pub record FaultsOnce : Type 0 where
  pub one : (v : Version) (text : List ℕ) (e f : CertFault) → BadCert v text e → BadCert v text f → e ≡ f
  pub none : (v : Version) (c : Cert) (f : CertFault) → Fits v c → BadCert v (spelled v c) f → ⊥

-- a text is the spelling of a certificate, or it has a fault
abbrev pub SpelledOrBad : Type 0
SpelledOrBad = (v : Version) (text : List ℕ) → ((c : Cert) × Fits v c × (text ≡ spelled v c)) ⊎ ((f : CertFault) × BadCert v text f)
