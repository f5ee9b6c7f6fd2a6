-- Why certificates are no links between classes, and why a text is no chain for two files: the first of these cases that holds.
use Rattle.std.specs.Prelude.{◌≡◌, ℕ, ◌<◌, ◌≤◌, List, length}
use Rattle.pv_cert.specs.declared.cert.Cert.{Cert}
use Rattle.pv_cert.specs.declared.cert.Version.TheVariants.{Two}
use Rattle.pv_cert.specs.BadCerts.{BadCert}
use Rattle.pv_chain.specs.declared.chain.Chain.{Chain}
use Rattle.pv_chain.specs.BadChains.{BadChain}
use Rattle.pv_chain.specs.Chains.{Fits, spelled}
use Rattle.pv_report.specs.declared.verdict.Side.TheVariants as side
use Rattle.pv_sections.specs.declared.certificate.TheConstants.{LONGEST_CERT}
use Rattle.pv_sections.specs.Flaws.{IsCert, NamesFirst, NamesSecond}
use Rattle.pv_links.specs.declared.chain.TheConstants.{LONGEST_CHAIN}
use Rattle.pv_links.specs.declared.flaw.TextFlaw.{TextFlaw}
use Rattle.pv_links.specs.declared.flaw.TextFlaw.TheVariants as text_flaw
use Rattle.pv_links.specs.declared.flaw.BadLink.{BadLink}
use Rattle.pv_links.specs.declared.flaw.BadLink.TheVariants as link
use Rattle.pv_links.specs.declared.flaw.ChainFlaw.{ChainFlaw}
use Rattle.pv_links.specs.declared.flaw.ChainFlaw.TheVariants as chain

-- the certificate names these two files, by their digests
pub record Names (c : Cert) (a b : List ℕ) : Type 0 where
  pub first : NamesFirst c a
  pub second : NamesSecond c b

-- ---- two certificates, for files a and b and for files b and c

abbrev pub IsSomeCert : List ℕ → Type 0
IsSomeCert text = (c : Cert) × IsCert text c

-- the text is no certificate that is read
abbrev pub IsTextFlaw : List ℕ → TextFlaw → Type 0
IsTextFlaw text text_flaw.TooLong = LONGEST_CERT < length text
IsTextFlaw text (text_flaw.Unread f) = (length text ≤ LONGEST_CERT) × BadCert Two text f

abbrev pub IsBadLink : List ℕ → List ℕ → List ℕ → List ℕ → List ℕ → BadLink → Type 0
IsBadLink a b c x y (link.Text side.First f) = IsTextFlaw x f
IsBadLink a b c x y (link.Text side.Second f) = IsSomeCert x × IsTextFlaw y f
IsBadLink a b c x y (link.Digest side.First) = (d e : Cert) × IsCert x d × IsCert y e × (Names d a b → ⊥)
IsBadLink a b c x y (link.Digest side.Second) = (d e : Cert) × IsCert x d × IsCert y e × Names d a b × (Names e b c → ⊥)

-- ---- a chain, for files a and c

-- the text is that of a chain, and not too long
pub record IsChain (text : List ℕ) (h : Chain) : Type 0 where
  pub short : length text ≤ LONGEST_CHAIN
  pub fits : Fits h
  pub spelled_ : text ≡ spelled h

-- each certificate names the files between which it stands
pub record IsBetween (h : Chain) (a c : List ℕ) : Type 0 where
  pub first : Names h.first a h.middle
  pub second : Names h.second h.middle c

abbrev pub IsChainFlaw : List ℕ → List ℕ → List ℕ → ChainFlaw → Type 0
IsChainFlaw a c text chain.TooLong = LONGEST_CHAIN < length text
IsChainFlaw a c text (chain.Unread f) = (length text ≤ LONGEST_CHAIN) × BadChain text f
IsChainFlaw a c text chain.Digest = (h : Chain) × IsChain text h × (IsBetween h a c → ⊥)
