-- The certificate that shows what a report says.
use Rattle.std.specs.Prelude.{◌≡◌, ℕ, List, [], Option, Some, None}
use Rattle.std.specs.Global.{Vec}
use Rattle.pv_cert.specs.declared.cert.Cert.{Cert}
use Rattle.pv_cert.specs.declared.cert.Version.TheVariants.{Two}
use Rattle.pv_cert.specs.Certificates.{Fits, header, spelled}
use Rattle.pv_report.specs.Options.{Limits}
use Rattle.pv_cert.specs.declared.cert.Section.{Section}
use Rattle.pv_report.specs.declared.pair.Fetched.{Fetched}
use Rattle.pv_report.specs.Judging.{IsFetched}
use Rattle.pv_report.specs.Shown.{AreShown}
use Rattle.pv_sections.specs.Flaws.{NamesFirst, NamesSecond}
use Rattle.pv_sections.specs.Reading.{IsDigestOf}

-- the text is the spelling in version 2 of a certificate that names two files with these bytes by their digests, has no lemmas, and has one
-- section for each line `.. equivalent` of the report on them, in its order
pub record IsCertificateFor (limits : Limits) (a b text : List ℕ) : Type 0 where
  pub certificate : Cert
  pub fits : Fits Two certificate
  pub spelled_ : text ≡ spelled Two certificate
  pub names_first : NamesFirst certificate a
  pub names_second : NamesSecond certificate b
  pub no_lemmas : certificate.lemmas ≡ []
  pub shown : AreShown limits a b certificate.sections

-- the text, if any, is the one for the bytes that were fetched
abbrev pub CertifiesFetched : Limits → Fetched → Fetched → Option (Vec ℕ) → Type 0
CertifiesFetched limits first second (Some text) = (a b : List ℕ) → IsFetched first a → IsFetched second b → IsCertificateFor limits a b text.items
CertifiesFetched limits first second None = Unit {0}

-- .. for the digests of what was fetched, with no lemmas and these sections
pub record IsTextFor (first second : Fetched) (sections : List Section) (text : List ℕ) : Type 0 where
  pub certificate : Cert
  pub digests : (header Two).fits (certificate.first, certificate.second)
  pub spelled_ : text ≡ spelled Two certificate
  pub first_is : IsDigestOf first certificate.first
  pub second_is : IsDigestOf second certificate.second
  pub no_lemmas : certificate.lemmas ≡ []
  pub sections_are : certificate.sections ≡ sections

-- there is a text exactly where there are sections for it
abbrev pub HasTextFor : Fetched → Fetched → Option (List Section) → Option (Vec ℕ) → Type 0
HasTextFor first second None None = Unit {0}
HasTextFor first second (Some sections) (Some text) = IsTextFor first second sections text.items
HasTextFor first second sections text = ⊥
