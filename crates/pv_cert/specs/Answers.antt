-- What read_cert and read_cert_1 answer.
use Rattle.std.specs.Prelude.{◌≡◌, ℕ, List, Result, Ok, Err}
use Rattle.pv_cert.specs.declared.cert.Version.{Version}
use Rattle.pv_cert.specs.declared.cert.Cert.{Cert}
use Rattle.pv_cert.specs.declared.cert.CertFault.{CertFault}
use Rattle.pv_cert.specs.declared.cert.CertFault.TheVariants as fault
use Rattle.pv_cert.specs.Certificates.{Fits, spelled}
use Rattle.pv_cert.specs.BadCerts.{BadCert}

-- what there is to answer of a text: the certificate of which it is the spelling in the version, or its fault
abbrev pub IsAnswer : Version → List ℕ → Result Cert CertFault → Type 0
IsAnswer v text (Ok c) = Fits v c × (text ≡ spelled v c)
IsAnswer v text (Err f) = BadCert v text f

-- a fact, unless memory ran out
abbrev pub UnlessMemory : Result Cert CertFault → Type 0 → Type 0
UnlessMemory (Err fault.Memory) P = Unit {0}
UnlessMemory result P = P

-- the answer is the certificate, or the fault
abbrev pub Answers : Version → List ℕ → Result Cert CertFault → Type 0
Answers v text result = UnlessMemory result (IsAnswer v text result)

-- no other answer is right
abbrev pub Tells : Version → List ℕ → Result Cert CertFault → Type 0
Tells v text result = (answer : Result Cert CertFault) → IsAnswer v text answer → UnlessMemory result (result ≡ answer)
