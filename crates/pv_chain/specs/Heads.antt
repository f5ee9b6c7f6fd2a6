-- The first three lines of a chain: the version, the middle class and the number of lines of the first certificate.
use Rattle.std.specs.Prelude.{ℕ, List, [], ◌∷◌, codes, decimal, refl}
use Rattle.hex.specs.Hex.{encode_lower}
use Rattle.pv_format.specs.Formats.{Format, Front}
use Rattle.pv_format.specs.Combinators.{one, pair, follow, exactly, constant, canonical, seen_as, whole_as}
use Rattle.pv_format.proofs.Cited.{cons_some}
use Rattle.pv_token.specs.Words.{IsWord, Sentence, Token, NoFeed}
use Rattle.pv_token.specs.Spellings.{AreBytes, are_bytes}
use Rattle.pv_token.specs.Tokens.{u32_token}
use Rattle.pv_token.specs.Lines.{line}
use Rattle.pv_chain.specs.Fed.{Any, fed}
use Rattle.pv_chain.specs.HexLaws.{meant_hex, hex_canonical}

-- bytes, each as two lower-case digits
abbrev pub bytes_token : Token (List ℕ)
bytes_token = canonical AreBytes are_bytes encode_lower meant_hex hex_canonical

-- a name, and a value
abbrev pub named_words : {A : Type 0} (name : List ℕ) → IsWord name → Token A → Sentence A
named_words name word token = whole_as (λ p. p.1) (λ a. (tt, a)) (λ a. refl) (λ p. refl) (follow (one (constant name word)) (exactly (one token)))

abbrev pub middle_words : Sentence (List ℕ)
middle_words = named_words (codes "middle") refl bytes_token

abbrev pub count_words : Sentence ℕ
count_words = named_words (codes "lines") refl u32_token

abbrev pub version_line : List ℕ
version_line = codes "peggy-chain 1"

-- no byte of it is a line feed
pub version_no_feed : NoFeed version_line
version_no_feed = (refl, (refl, (refl, (refl, (refl, (refl, (refl, (refl, (refl, (refl, (refl, (refl, (refl, tt)))))))))))))

abbrev pub version_text : Format NoFeed (Unit {0})
version_text = constant version_line version_no_feed

-- middle HEX
abbrev pub middle_text : Format NoFeed (List ℕ)
middle_text = line middle_words (λ bytes. cons_some (codes "middle") (encode_lower bytes ∷ []))

-- lines N
abbrev pub count_text : Format NoFeed ℕ
count_text = line count_words (λ n. cons_some (codes "lines") (decimal n ∷ []))

-- the bytes of the middle class, and how many lines the first certificate has
abbrev pub head : Front Any (List ℕ × ℕ)
head = seen_as (λ p. p.1) (λ h. (tt, h)) (λ h. refl) (λ p. refl) (pair (fed version_text) (pair (fed middle_text) (fed count_text)))
