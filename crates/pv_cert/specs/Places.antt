-- What is read, without where it lies in memory.
use Rattle.std.specs.Prelude.{◌≡◌, ℕ, List, [], ◌∷◌, if◌then◌else◌, Option, Some, None, Result, Ok, Err}
use Rattle.std.specs.Option.{option_map, option_and_then}
use Rattle.std.specs.Str.{bytes_eq}
use Rattle.pv_format.specs.Reading.{read_follow, take_one, read_constant}
use Rattle.pv_format.specs.Combinators.{one, exactly}
use Rattle.pv_token.specs.Tokens.{digest_token}
use Rattle.pv_cert.specs.declared.read.Place.{Place as Held}
use Rattle.pv_cert.specs.declared.read.Place.TheVariants as held
use Rattle.pv_cert.specs.declared.cert.Version.{Version}
use Rattle.pv_cert.specs.declared.cert.CertFault.{CertFault}
use Rattle.pv_cert.specs.declared.cert.CertFault.TheVariants as fault
use Rattle.pv_cert.specs.Certificates.{version_line, first_text, second_text}
use Rattle.pv_cert.specs.Reading.{Place, between, proving, inside, next}

abbrev pub seen_place : Held → Place
seen_place (held.Between lemmas sections) = between lemmas.items sections.items
seen_place (held.Proving lemmas vars steps) = proving lemmas.items vars steps.items
seen_place (held.Inside lemmas sections title steps) = inside lemmas.items sections.items title steps.items

-- what a reader returns is what reading gives, unless memory runs out
abbrev pub GivesErr : {A : Type 0} → CertFault → Result A CertFault → Type 0
GivesErr fault.Memory read = Unit {0}
GivesErr e read = read ≡ Err e

abbrev pub Gives : {A : Type 0} → Result A CertFault → Result A CertFault → Type 0
Gives (Ok a) read = read ≡ Ok a
Gives (Err e) read = GivesErr e read

-- the place after line n, which may stand there, unless memory runs out
abbrev pub GoesOn : Version → ℕ → Held → List ℕ → Result Held CertFault → Type 0
GoesOn v n place line (Ok q) = next v (seen_place place) line ≡ Some (seen_place q)
GoesOn v n place line (Err fault.Memory) = Unit {0}
GoesOn v n place line (Err e) = (next v (seen_place place) line ≡ None) × (e ≡ fault.Step n)

-- the words after the first of them, if that is this one
abbrev pub words_after : List ℕ → List (List ℕ) → Option (List (List ℕ))
words_after word [] = None
words_after word (first ∷ words) = if bytes_eq first word then Some words else None

-- the digest of a line whose first word is the name of its file
abbrev pub read_digest_words : List ℕ → List (List ℕ) → Option (List ℕ)
read_digest_words which words = option_map (λ p. p.1) (read_follow (take_one (read_constant which)) (exactly (one digest_token)).reads words)

-- the digests and the lines after them, where the first digest was read
abbrev pub with_second : List ℕ → List (List ℕ) → Option ((List ℕ × List ℕ) × List (List ℕ))
with_second first all = option_map (λ p. ((first, p.0), p.1)) ((one second_text).takes all)

-- .. where the version was read
abbrev pub take_digests : List (List ℕ) → Option ((List ℕ × List ℕ) × List (List ℕ))
take_digests all = option_and_then (λ p. with_second p.0 p.1) ((one first_text).takes all)

-- .. of all lines
abbrev pub after_version : Version → List (List ℕ) → Option ((List ℕ × List ℕ) × List (List ℕ))
after_version v [] = None
after_version v (line ∷ all) = if bytes_eq line (version_line v) then take_digests all else None
