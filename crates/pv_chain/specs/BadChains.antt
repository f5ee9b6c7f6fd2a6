-- Why a text is not a chain: the first of these cases that holds.
use Rattle.std.specs.Prelude.{◌≡◌, ℕ, List, ◌++◌, length}
use Rattle.std.specs.List.{AllByRecursion}
use Rattle.pv_class.specs.declared.file.ClassFile.{ClassFile}
use Rattle.pv_class.specs.ClassFiles.{IsClass}
use Rattle.pv_format.specs.Splits.{text_of}
use Rattle.pv_token.specs.Words.{NoFeed}
use Rattle.pv_cert.specs.declared.cert.Version.TheVariants.{Two}
use Rattle.pv_cert.specs.declared.cert.Cert.{Cert}
use Rattle.pv_cert.specs.declared.cert.CertFault.{CertFault}
use Rattle.pv_cert.specs.BadCerts.{BadCert, IsCut}
use Rattle.pv_cert.specs.Certificates as cert
use Rattle.pv_chain.specs.declared.chain.ChainFault.{ChainFault}
use Rattle.pv_chain.specs.declared.chain.ChainFault.TheVariants as fault
use Rattle.pv_chain.specs.FedReading.{IsEnded}
use Rattle.pv_chain.specs.Heads.{head}

-- what comes after the first lines: as many lines as these say, and the rest of the text
pub record Parts : Type 0 where
  pub middle : List ℕ
  pub lines : List (List ℕ)
  pub second : List ℕ

pub record HasParts (text : List ℕ) (p : Parts) : Type 0 where
  pub fits : head.fits (p.middle, length p.lines)
  pub apart : AllByRecursion NoFeed p.lines
  pub spelled : text ≡ head.spells (p.middle, length p.lines) ++ (text_of p.lines ++ p.second)

-- .. and the middle is a class
pub record IsHeaded (text : List ℕ) (p : Parts) : Type 0 where
  pub parts : HasParts text p
  pub file : ClassFile
  pub file_is : IsClass p.middle file

-- the text is that of a certificate, in version 2
abbrev pub IsCertText : List ℕ → Cert → Type 0
IsCertText text c = cert.Fits Two c × (text ≡ cert.spelled Two c)

-- .. or of none
abbrev pub IsNoCert : List ℕ → Type 0
IsNoCert text = (f : CertFault) × BadCert Two text f

abbrev pub BadChain : List ℕ → ChainFault → Type 0
BadChain text fault.Truncated = IsCut text
BadChain text fault.Header = IsEnded text × ((p : Parts) → IsHeaded text p → ⊥)
BadChain text fault.First = IsEnded text × ((p : Parts) × IsHeaded text p × IsNoCert (text_of p.lines))
BadChain text fault.Second = IsEnded text × ((p : Parts) × IsHeaded text p × ((c : Cert) × IsCertText (text_of p.lines) c) × IsNoCert p.second)
BadChain text fault.Memory = ⊥
