-- Laws of the text of certificates: each text is the spelling of one certificate, or it has one fault.
use Rattle.std.proofs.Common.{◌≡◌, ◌⊎◌, ℕ, List, Result, Ok, Err, refl, ap, ◌∙◌, inl, inr}
use Rattle.pv_cert.specs.declared.cert.Version.{Version}
use Rattle.pv_cert.specs.declared.cert.Cert.{Cert}
use Rattle.pv_cert.specs.declared.cert.CertFault.{CertFault}
use Rattle.pv_cert.specs.Certificates.{Fits, spelled, read_text}
use Rattle.pv_cert.specs.BadCerts.{BadCert}
use Rattle.pv_cert.specs.Laws.{SpelledOnce, FaultsOnce, SpelledOrBad}
use Rattle.pv_cert.proofs.CertLaws.{text_again, text_back, bad_text_again, bad_text_back}

same_cert : (r : Result Cert CertFault) (c d : Cert) → r ≡ Ok c → r ≡ Ok d → c ≡ d
same_cert r c d p q = cc

same_fault : (r : Result Cert CertFault) (e f : CertFault) → r ≡ Err e → r ≡ Err f → e ≡ f
same_fault r e f p q = cc

apart : (r : Result Cert CertFault) (c : Cert) (f : CertFault) → r ≡ Ok c → r ≡ Err f → ⊥
apart r c f p q = absurd (cc)

pub spelled_once : SpelledOnce
spelled_once v c d fits other same = same_cert (read_text v (spelled v c)) c d (text_again v c fits) (ap (read_text v) same ∙ text_again v d other)

pub faults_once : FaultsOnce
faults_once = record {
  one = λ v text e f p q. same_fault (read_text v text) e f (bad_text_again v text e p) (bad_text_again v text f q);
  none = λ v c f fits bad. apart (read_text v (spelled v c)) c f (text_again v c fits) (bad_text_again v (spelled v c) f bad);
}

by_result : (v : Version) (text : List ℕ) (r : Result Cert CertFault) → read_text v text ≡ r → ((c : Cert) × Fits v c × (text ≡ spelled v c)) ⊎ ((f : CertFault) × BadCert v text f)
by_result v text (Ok c) e = let b = text_back v text c e in inl (c, b.0, b.1)
by_result v text (Err f) e = inr (f, bad_text_back v text f e)

pub spelled_or_bad : SpelledOrBad
spelled_or_bad v text = by_result v text (read_text v text) refl
