-- Bytes as lower-case digits: what is spelled means what it was spelled for, and is a word.
use Rattle.std.proofs.Common.{◌≡◌, ℕ, zero, suc, ◌/◌, ◌%◌, ◌<◌, Bool, true, ltb, ◌&&◌, List, [], ◌∷◌, refl, ap, arith, inl, inr}
use Rattle.std.specs.Prelude.{slice_index, nat_lt}
use Rattle.std.proofs.lemmas.Bool.{ltb-true, and_parts, cases_lt}
use Rattle.hex.specs.Hex.{encode_lower, encode_with, lower_digits, decode_of, IsBytes}
use Rattle.hex.proofs.HexLemmas.{decode_of-encode_lower}
use Rattle.pv_format.specs.Reading.{IsCanonical}
use Rattle.pv_token.specs.Words.{IsWord}
use Rattle.pv_token.specs.Spellings.{AreBytes, are_bytes, decoded}
use Rattle.pv_token.specs.TokenLaws.{bytes_pass, word-cons}

-- what digits mean
abbrev pub meant_hex : List ℕ → List ℕ
meant_hex word = decoded (decode_of word)

bytes_passed : (bytes : List ℕ) → are_bytes bytes ≡ true → AreBytes bytes
bytes_passed [] e = tt
bytes_passed (b ∷ bytes) e = let t = and_parts (ltb b 256) (are_bytes bytes) e in (ltb-true b 256 t.0, bytes_passed bytes t.1)

-- the test of the first n digits, which computes
abbrev all_low : ℕ → Bool
all_low zero = true
all_low (suc n) = nat_lt 32 (slice_index lower_digits n) && all_low n

low_at : (n k : ℕ) → all_low n ≡ true → k < n → 32 < slice_index lower_digits k
low_at zero k e lt = absurd (omega arith)
low_at (suc n) k e lt =
    let parts = and_parts (nat_lt 32 (slice_index lower_digits n)) (all_low n) e in
    elim (cases_lt k n) [
      | inl below ↦ low_at n k parts.1 below
      | inr top ↦
          let is : k ≡ n = omega arith in
          rw is (ltb-true 32 (slice_index lower_digits n) parts.0)
    ]

digit_word : (n : ℕ) → n < 16 → 32 < slice_index lower_digits n
digit_word n lt = low_at 16 n refl lt

digits_word : (bytes : List ℕ) → AreBytes bytes → IsWord (encode_lower bytes)
unfolding encode_with
digits_word [] fits = refl
digits_word (b ∷ bytes) fits =
    let lt : b < 256 = fits.0 in
    word-cons (slice_index lower_digits (b / 16)) (slice_index lower_digits (b % 16) ∷ encode_lower bytes) (digit_word (b / 16) (omega arith)) (word-cons (slice_index lower_digits (b % 16)) (encode_lower bytes) (digit_word (b % 16) (omega arith)) (digits_word bytes fits.1))

are_indexed : (bytes : List ℕ) → AreBytes bytes → IsBytes bytes
are_indexed [] fits i = omega arith
are_indexed (b ∷ bytes) fits zero = fits.0
are_indexed (b ∷ bytes) fits (suc i) = are_indexed bytes fits.1 i

pub hex_canonical : IsCanonical IsWord AreBytes are_bytes encode_lower meant_hex
hex_canonical = record {
  passes = bytes_pass;
  passed = bytes_passed;
  meant = λ bytes fits. ap decoded (decode_of-encode_lower bytes (are_indexed bytes fits));
  proper = digits_word;
}
