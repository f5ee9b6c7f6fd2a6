-- Texts and digests are written and read by the words of the crates that do it.
use Rattle.std.proofs.Common.{◌≡◌, ◌==◌, ℕ, suc, ◌*◌, ◌≤◌, Bool, true, false, cond, not, List, [], ◌∷◌, ◌++◌, length, Some, Ok, refl, sym, ap, ◌∙◌, arith, inl, inr}
use Rattle.std.specs.Cmp.Lexicographic.{pointwise}
use Rattle.std.specs.List.{flat_map}
use Rattle.std.proofs.lemmas.Bool.{agree_below, agree_below_at, cases_lt}
use Rattle.std.proofs.lemmas.Bool.Decides.{nat_tests}
use Rattle.hex.specs.Hex.{encode_lower, decode_sized, IsBytes}
use Rattle.hex.proofs.HexLemmas.{decode_sized-ok, decode_sized-twice, decode_of-ok}
use Rattle.percent_encoding.specs.AsciiSet.{should_percent_encode}
use Rattle.percent_encoding.specs.Percent.{percent_encode_byte, encode_byte, percent_encode}
use Rattle.pv_format.proofs.Cited.{reads_it}
use Rattle.pv_token.proofs.NumberSteps.{same_text}
use Rattle.pv_token.specs.declared.text.TheConstants.{ESCAPED}
use Rattle.pv_token.specs.Spellings.{AreBytes, is_plain, shown_byte, shown_bytes}
use Rattle.pv_token.specs.Tokens.{shown_token, digest_token}

-- ---- what is escaped is what does not stand for itself

low_same : agree_below (should_percent_encode ESCAPED) (λ b. not (is_plain b)) 128 ≡ true
unfolding should_percent_encode
low_same = refl

high_escaped : (b : ℕ) → 128 ≤ b → should_percent_encode ESCAPED b ≡ true
unfolding should_percent_encode
high_escaped b high = grind (arith, nat_tests)

high_plain : (b : ℕ) → 128 ≤ b → is_plain b ≡ false
high_plain b high = grind (arith, nat_tests)

escapes : (b : ℕ) → should_percent_encode ESCAPED b ≡ not (is_plain b)
escapes b =
    elim (cases_lt b 128) [
      | inl low ↦ agree_below_at (should_percent_encode ESCAPED) (λ b. not (is_plain b)) 128 b low_same low
      | inr high ↦ high_escaped b high ∙ ap not (sym (high_plain b high))
    ]

byte_same : (b : ℕ) → encode_byte ESCAPED b ≡ shown_byte b
byte_same b = ap (λ (t : Bool). cond t (percent_encode_byte b) (b ∷ [])) (escapes b) ∙ turned (is_plain b)
  where
    turned : (t : Bool) → cond (not t) (percent_encode_byte b) (b ∷ []) ≡ cond t (b ∷ []) (percent_encode_byte b)
    turned true = refl
    turned false = refl

bytes_same : (bytes : List ℕ) → flat_map (encode_byte ESCAPED) bytes ≡ flat_map shown_byte bytes
bytes_same [] = refl
bytes_same (b ∷ bytes) = ap (λ (t : List ℕ). t ++ flat_map (encode_byte ESCAPED) bytes) (byte_same b) ∙ ap (λ (t : List ℕ). shown_byte b ++ t) (bytes_same bytes)

pub encoded_shown : (bytes : List ℕ) → (length bytes == 0) ≡ false → percent_encode ESCAPED bytes ≡ shown_bytes bytes
unfolding percent_encode
encoded_shown [] some = absurd (cc)
encoded_shown (b ∷ bytes) some = bytes_same (b ∷ bytes)

-- ---- what is written as the word is read

pub shown_read : (bytes text word : List ℕ) → AreBytes bytes → text ≡ shown_bytes bytes → pointwise ◌==◌ text word ≡ true → Some bytes ≡ shown_token.reads word
shown_read bytes text word fits is e = sym (reads_it shown_token word bytes fits (same_text text word e ∙ is))

are_bytes : (bytes : List ℕ) → IsBytes bytes → AreBytes bytes
are_bytes [] small = tt
are_bytes (b ∷ bytes) small = (small 0, are_bytes bytes (λ i. small (suc i)))

pub digest_read : (bytes text word : List ℕ) → decode_sized word 32 ≡ Ok bytes → text ≡ encode_lower bytes → pointwise ◌==◌ text word ≡ true → Some bytes ≡ digest_token.reads word
digest_read bytes text word decoded is e =
    let long : length word ≡ 2 * 32 = decode_sized-ok word 32 bytes decoded in
    let d = decode_of-ok word bytes (sym (decode_sized-twice word 32 long) ∙ decoded) in
    let short : length bytes ≡ 32 = omega (arith, long, d.2) in
    sym (reads_it digest_token word bytes (short, are_bytes bytes d.3) (same_text text word e ∙ is))
