-- The text of a certificate: every line ends with one line feed.
use Rattle.std.specs.Prelude.{ℕ, List, [], ◌∷◌, ◌++◌, Option, Some, None, Result, Ok, Err, codes, refl}
use Rattle.pv_format.specs.Formats.{Format, Front}
use Rattle.pv_format.specs.Splits.{text_of}
use Rattle.pv_format.proofs.Cited.{cons_some}
use Rattle.pv_format.specs.Combinators.{one, pair, follow, exactly, constant, seen_as, whole_as, lines}
use Rattle.pv_token.specs.Words.{IsWord, Sentence, NoFeed}
use Rattle.pv_token.specs.Tokens.{digest_token}
use Rattle.pv_token.specs.Lines.{line}
use Rattle.pv_cert.specs.declared.cert.Version.{Version}
use Rattle.pv_cert.specs.declared.cert.Version.TheVariants.{One, Two}
use Rattle.pv_cert.specs.declared.cert.Cert.{Cert}
use Rattle.pv_cert.specs.declared.cert.Body.{Body}
use Rattle.pv_cert.specs.declared.cert.CertFault.{CertFault}
use Rattle.pv_cert.specs.declared.cert.CertFault.TheVariants as fault
use Rattle.pv_cert.specs.Reading.{BodyFits, body_lines, body_of, between, read_lines}

abbrev pub version_line : Version → List ℕ
version_line One = codes "peggy-cert 1"
version_line Two = codes "peggy-cert 2"

-- which of the two files, and its digest
abbrev pub digest_words : (which : List ℕ) → IsWord which → Sentence (List ℕ)
digest_words which word = whole_as (λ p. p.1) (λ digest. (tt, digest)) (λ digest. refl) (λ p. refl) (follow (one (constant which word)) (exactly (one digest_token)))

abbrev pub digest_text : (which : List ℕ) → IsWord which → Format NoFeed (List ℕ)
digest_text which word = line (digest_words which word) (λ digest. cons_some which (digest_token.spells digest ∷ []))

abbrev pub first_text : Format NoFeed (List ℕ)
first_text = digest_text (codes "first") refl

abbrev pub second_text : Format NoFeed (List ℕ)
second_text = digest_text (codes "second") refl

-- no byte of it is a line feed
pub version_no_feed : (v : Version) → NoFeed (version_line v)
version_no_feed One = (refl, (refl, (refl, (refl, (refl, (refl, (refl, (refl, (refl, (refl, (refl, (refl, tt))))))))))))
version_no_feed Two = (refl, (refl, (refl, (refl, (refl, (refl, (refl, (refl, (refl, (refl, (refl, (refl, tt))))))))))))

-- the version and two digests
abbrev pub header : Version → Front NoFeed (List ℕ × List ℕ)
header v =
    seen_as (λ p. p.1) (λ digests. (tt, digests)) (λ digests. refl) (λ p. refl) (pair (one (constant (version_line v) (version_no_feed v))) (pair (one first_text) (one second_text)))

abbrev pub body : Cert → Body
body c = body_of c.lemmas c.sections

abbrev pub cert_lines : Version → Cert → List (List ℕ)
cert_lines v c = (header v).spells (c.first, c.second) ++ body_lines (body c)

-- the one spelling of a certificate in a version
abbrev pub spelled : Version → Cert → List ℕ
spelled v c = text_of (cert_lines v c)

-- what has a spelling in a version
pub record Fits (v : Version) (c : Cert) : Type 0 where
  pub digests : (header v).fits (c.first, c.second)
  pub body_ : BodyFits v (body c)

-- ---- how it is read

abbrev pub cert_of : List ℕ × List ℕ → Result Body CertFault → Result Cert CertFault
cert_of digests (Ok b) = Ok (record { first = digests.0; second = digests.1; lemmas = b.lemmas; sections = b.sections })
cert_of digests (Err e) = Err e

abbrev pub read_after_header : Version → Option ((List ℕ × List ℕ) × List (List ℕ)) → Result Cert CertFault
read_after_header v None = Err fault.Header
read_after_header v (Some h) = cert_of h.0 (read_lines v 4 (between [] []) h.1)

abbrev pub read_all : Version → Option (List (List ℕ)) → Result Cert CertFault
read_all v None = Err fault.Truncated
read_all v (Some all) = read_after_header v ((header v).takes all)

abbrev pub read_text : Version → List ℕ → Result Cert CertFault
read_text v text = read_all v (lines.reads text)
