-- Why a text is not a certificate of a version.
use Rattle.std.specs.Prelude.{◌≡◌, ◌≢◌, ◌⊎◌, ℕ, List, [], ◌∷◌, ◌++◌}
use Rattle.pv_format.specs.Splits.{text_of}
use Rattle.pv_format.specs.Combinators.{lines}
use Rattle.pv_cert.specs.declared.cert.Version.{Version}
use Rattle.pv_cert.specs.declared.cert.CertFault.{CertFault}
use Rattle.pv_cert.specs.declared.cert.CertFault.TheVariants as fault
use Rattle.pv_cert.specs.Certificates.{header}
use Rattle.pv_cert.specs.Faults.{BadLines}

-- the last byte is not a line feed, or there is none
abbrev pub IsCut : List ℕ → Type 0
IsCut text = (front : List ℕ) → text ≢ front ++ 10 ∷ []

-- the lines of a text
abbrev pub AreLines : List ℕ → List (List ℕ) → Type 0
AreLines text all = lines.fits all × (text ≡ text_of all)

-- lines that begin with those of a header
abbrev pub HasHeader : Version → List (List ℕ) → List ℕ × List ℕ → List (List ℕ) → Type 0
HasHeader v all digests rest = (header v).fits digests × (all ≡ (header v).spells digests ++ rest)

-- The lines after the header are not those of lemmas and sections. The first of them is line 4.
pub record BadBody (v : Version) (text : List ℕ) (f : CertFault) : Type 0 where
  pub all : List (List ℕ)
  pub are : AreLines text all
  pub digests : List ℕ × List ℕ
  pub rest : List (List ℕ)
  pub begins : HasHeader v all digests rest
  pub bad : BadLines v 4 rest f

abbrev pub BadHeader : Version → List ℕ → Type 0
BadHeader v text = (all : List (List ℕ)) × AreLines text all × ((digests : List ℕ × List ℕ) (rest : List (List ℕ)) → HasHeader v all digests rest → ⊥)

abbrev pub BadCert : Version → List ℕ → CertFault → Type 0
BadCert v text fault.Truncated = IsCut text ⊎ BadBody v text fault.Truncated
BadCert v text fault.Header = BadHeader v text
BadCert v text (fault.Step n) = BadBody v text (fault.Step n)
BadCert v text fault.Memory = ⊥
