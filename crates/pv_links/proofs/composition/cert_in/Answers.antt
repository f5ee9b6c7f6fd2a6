use Rattle.std.proofs.Common.{List, ℕ, ◌≢◌, Err, refl}
use Rattle.pv_cert.specs.declared.cert.Version.TheVariants.{Two}
use Rattle.pv_cert.specs.declared.cert.CertFault.{CertFault}
use Rattle.pv_cert.specs.declared.cert.CertFault.TheVariants as fault
use Rattle.pv_cert.specs.BadCerts.{BadCert}
use Rattle.pv_cert.specs.Answers.{Answers}

-- with memory, the fault is that of the text
bad_text : (text : List ℕ) (f : CertFault) → f ≢ fault.Memory → Answers Two text (Err f) → BadCert Two text f
bad_text text fault.Memory has h = absurd (has refl)
bad_text text _ has h = h
