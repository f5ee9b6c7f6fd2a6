-- Numbers, texts and digests: what is spelled means what it was spelled for, and is a word.
use Rattle.std.proofs.Common.{◌≡◌, ◌≢◌, ℕ, zero, suc, ◌+◌, ◌*◌, ◌/◌, ◌%◌, ◌^◌, ◌<◌, ◌≤◌, Bool, true, false, cond, eqb, ltb, leb, ◌&&◌, not, List, [], ◌∷◌, ◌++◌, length, drop, refl, sym, ap, ◌∙◌, arith, inl, inr}
use Rattle.std.specs.Prelude.{codes, decimal, ℤ, pos, negsuc, slice_index, neg_ℤ, ◌==◌, nat_lt, FitsSigned}
use Rattle.std.specs.Fmt.{signed_decimal, digit_glyph}
use Rattle.std.specs.Int.{w32, w64}
use Rattle.std.specs.Int.Signed.{mag}
use Rattle.std.specs.List.{flat_map}
use Rattle.std.specs.Str.{bytes_eq}
use Rattle.std.specs.Str.Parse.{digits_value, signed_digits_value}
use Rattle.std.proofs.lemmas.Bool.{lt-ltb, le-leb, ltb-true, leb-true, eqb-true, eq-eqb, ne_eqb, not-true, and_parts, and_from, cond-true, cond-false, cases_Bool, cases_lt, cond_both}
use Rattle.std.proofs.lemmas.Slice.Eq.{bytes_eq-Decides}
use Rattle.std.proofs.lemmas.Fmt.{decimal_digit, decimal_by_steps, decimal_is_IsNumeral, first_decimal}
use Rattle.hex.specs.Hex.{encode_lower, encode_with, lower_digits, IsBytes}
use Rattle.hex.proofs.HexLemmas.{decode_of-encode_lower, decode_sized-twice, length-encode_with}
use Rattle.percent_encoding.specs.Percent.{percent_encode_byte, percent_decode}
use Rattle.percent_encoding.proofs.PercentLemmas.{percent_decode-nil, percent_decode-percent_encode_byte, percent_decode_not_percent}
use Rattle.pv_format.specs.Reading.{IsCanonical}
use Rattle.pv_token.specs.Words.{is_word, IsWord}
use Rattle.pv_token.specs.Spellings.{fits_signed, AreBytes, are_bytes, is_plain, shown_byte, shown_bytes, meant_bytes, are_digest, decoded, meant_digits}

-- ---- words

pub word-append : (front back : List ℕ) → IsWord front → IsWord back → IsWord (front ++ back)
word-append [] back p q = q
word-append (b ∷ front) back p q = let t = and_parts (ltb 32 b) (is_word front) p in and_from (ltb 32 b) (is_word (front ++ back)) t.0 (word-append front back t.1 q)

pub word-cons : (b : ℕ) (word : List ℕ) → 32 < b → IsWord word → IsWord (b ∷ word)
word-cons b word lt p = and_from (ltb 32 b) (is_word word) (lt-ltb 32 b lt) p

-- ---- numbers

pub decimal_word : (n : ℕ) → n < 2 ^ 64 → IsWord (decimal n)
decimal_word n lt =
    decimal_by_steps (λ n word. IsWord word) (λ n ten. word-cons (48 + n) [] (omega arith) refl) (λ n word ten front. word-append word ((48 + n % 10) ∷ []) front (word-cons (48 + n % 10) [] (omega arith) refl)) n lt

pub u32_canonical : IsCanonical IsWord (λ n. n < 2 ^ 32) (λ n. nat_lt n (2 ^ 32)) decimal (digits_value 10)
u32_canonical = record {
  passes = λ n lt. lt-ltb n (2 ^ 32) lt;
  passed = λ n e. ltb-true n (2 ^ 32) e;
  meant = λ n lt. (decimal_is_IsNumeral n (omega arith)).1;
  proper = λ n lt. decimal_word n (omega arith);
}

pub signed_word : (z : ℤ) → mag z < 2 ^ 63 → IsWord (signed_decimal z)
signed_word (pos n) lt = decimal_word n (omega arith)
signed_word (negsuc n) lt = word-cons 45 (decimal (suc n)) (omega arith) (decimal_word (suc n) (omega arith))

-- digits that begin with no sign
unsigned_value : (word : List ℕ) (n : ℕ) → 48 < slice_index word 0 → digits_value 10 word ≡ n → signed_digits_value 10 word ≡ pos n
unsigned_value word n first is =
    let digits : ℕ → List ℕ = λ k. drop k word in
    let plus : ℕ = slice_index word 0 in
    let no_plus : (plus == 43) ≡ false = ne_eqb plus 43 (omega arith) in
    let no_minus : (plus == 45) ≡ false = ne_eqb plus 45 (omega arith) in
    ap (λ (m : Bool). cond m (neg_ℤ (pos (digits_value 10 (cond m (drop 1 word) (drop (cond (plus == 43) 1 0) word))))) (pos (digits_value 10 (cond m (drop 1 word) (drop (cond (plus == 43) 1 0) word))))) no_minus
    ∙ ap (λ (p : Bool). pos (digits_value 10 (drop (cond p 1 0) word))) no_plus
    ∙ ap (λ (k : ℕ). pos k) is

signed_meant : (z : ℤ) → mag z < 2 ^ 63 → signed_digits_value 10 (signed_decimal z) ≡ z
signed_meant (pos zero) lt = ap (signed_digits_value 10) (decimal_digit 0 (omega arith))
signed_meant (pos (suc n)) lt = unsigned_value (decimal (suc n)) (suc n) (first_decimal (suc n) (omega arith) (omega arith)) (decimal_is_IsNumeral (suc n) (omega arith)).1
signed_meant (negsuc n) lt = ap (λ (k : ℕ). neg_ℤ (pos k)) (decimal_is_IsNumeral (suc n) (omega arith)).1

int_passes : (z : ℤ) → FitsSigned w32 z → fits_signed w32 z ≡ true
int_passes (pos n) fits = lt-ltb n (2 ^ 31) fits.sfits
int_passes (negsuc n) fits = let below : n < 2 ^ 31 = fits.sfits in and_from (leb n 2147483647) true (le-leb n 2147483647 (omega arith)) refl

int_passed : (z : ℤ) → fits_signed w32 z ≡ true → FitsSigned w32 z
int_passed (pos n) e = record { sfits = ltb-true n (2 ^ 31) e }
int_passed (negsuc n) e = let low : n ≤ 2147483647 = leb-true n 2147483647 (and_parts (leb n 2147483647) true e).0 in record { sfits = omega arith }

pub int_canonical : IsCanonical IsWord (FitsSigned w32) (fits_signed w32) signed_decimal (signed_digits_value 10)
int_canonical = record {
  passes = int_passes;
  passed = int_passed;
  meant = λ z fits. signed_meant z (omega (arith, fits.sfits));
  proper = λ z fits. signed_word z (omega (arith, fits.sfits));
}

long_passes : (z : ℤ) → FitsSigned w64 z → fits_signed w64 z ≡ true
long_passes (pos n) fits = lt-ltb n (2 ^ 63) fits.sfits
long_passes (negsuc n) fits = let below : n < 2 ^ 63 = fits.sfits in and_from (leb n 9223372036854775807) true (le-leb n 9223372036854775807 (omega arith)) refl

long_passed : (z : ℤ) → fits_signed w64 z ≡ true → FitsSigned w64 z
long_passed (pos n) e = record { sfits = ltb-true n (2 ^ 63) e }
long_passed (negsuc n) e = let low : n ≤ 9223372036854775807 = leb-true n 9223372036854775807 (and_parts (leb n 9223372036854775807) true e).0 in record { sfits = omega arith }

pub long_canonical : IsCanonical IsWord (FitsSigned w64) (fits_signed w64) signed_decimal (signed_digits_value 10)
long_canonical = record {
  passes = long_passes;
  passed = long_passed;
  meant = λ z fits. signed_meant z fits.sfits;
  proper = λ z fits. signed_word z fits.sfits;
}

-- ---- bytes

pub bytes_pass : (bytes : List ℕ) → AreBytes bytes → are_bytes bytes ≡ true
bytes_pass [] fits = refl
bytes_pass (b ∷ bytes) fits = and_from (ltb b 256) (are_bytes bytes) (lt-ltb b 256 fits.0) (bytes_pass bytes fits.1)

bytes_passed : (bytes : List ℕ) → are_bytes bytes ≡ true → AreBytes bytes
bytes_passed [] e = tt
bytes_passed (b ∷ bytes) e = let t = and_parts (ltb b 256) (are_bytes bytes) e in (ltb-true b 256 t.0, bytes_passed bytes t.1)

bytes_word : (spells : ℕ → List ℕ) → ((b : ℕ) → IsWord (spells b)) → (bytes : List ℕ) → IsWord (flat_map spells bytes)
bytes_word spells one [] = refl
bytes_word spells one (b ∷ bytes) = word-append (spells b) (flat_map spells bytes) (one b) (bytes_word spells one bytes)

-- ---- shown text

plain_range : (b : ℕ) → is_plain b ≡ true → (32 < b) × (b ≢ 37)
plain_range b e =
    let p = and_parts (leb 0x21 b && leb b 0x7E) (not (eqb b 37)) e in
    let low : 0x21 ≤ b = leb-true 0x21 b (and_parts (leb 0x21 b) (leb b 0x7E) p.0).0 in
    let other : eqb b 37 ≡ false = not-true (eqb b 37) p.1 in
    (omega arith, λ is. let same : eqb b 37 ≡ true = eq-eqb b 37 is in absurd (cc))

glyph_low : (d : ℕ) → 32 < digit_glyph true d
glyph_low d = cond_both (ltb d 10) (48 + d) (55 + d) (λ x. 32 < x) (λ e. omega arith) (λ e. omega arith)

escape_word : (b : ℕ) → IsWord (percent_encode_byte b)
unfolding percent_encode_byte
escape_word b =
    word-cons 37 (digit_glyph true (b / 16 % 16) ∷ digit_glyph true (b % 16) ∷ []) (omega arith)
    (word-cons (digit_glyph true (b / 16 % 16)) (digit_glyph true (b % 16) ∷ []) (glyph_low (b / 16 % 16)) (word-cons (digit_glyph true (b % 16)) [] (glyph_low (b % 16)) refl))

shown_byte_word : (b : ℕ) → IsWord (shown_byte b)
shown_byte_word b =
    elim (cases_Bool (is_plain b)) [
      | inl plain ↦ ap is_word (cond-true (is_plain b) (b ∷ []) (percent_encode_byte b) plain) ∙ word-cons b [] (plain_range b plain).0 refl
      | inr other ↦ ap is_word (cond-false (is_plain b) (b ∷ []) (percent_encode_byte b) other) ∙ escape_word b
    ]

pub shown_word : (bytes : List ℕ) → IsWord (shown_bytes bytes)
shown_word [] = refl
shown_word (b ∷ bytes) = bytes_word shown_byte shown_byte_word (b ∷ bytes)

byte_meant : (b : ℕ) (word : List ℕ) → b < 256 → percent_decode (shown_byte b ++ word) ≡ b ∷ percent_decode word
byte_meant b word lt =
    elim (cases_Bool (is_plain b)) [
      | inl plain ↦ ap (λ (t : List ℕ). percent_decode (t ++ word)) (cond-true (is_plain b) (b ∷ []) (percent_encode_byte b) plain) ∙ percent_decode_not_percent b word (plain_range b plain).1
      | inr other ↦ ap (λ (t : List ℕ). percent_decode (t ++ word)) (cond-false (is_plain b) (b ∷ []) (percent_encode_byte b) other) ∙ percent_decode-percent_encode_byte b word lt
    ]

all_meant : (bytes : List ℕ) → AreBytes bytes → percent_decode (flat_map shown_byte bytes) ≡ bytes
all_meant [] fits = percent_decode-nil
all_meant (b ∷ bytes) fits = byte_meant b (flat_map shown_byte bytes) fits.0 ∙ ap (λ (t : List ℕ). b ∷ t) (all_meant bytes fits.1)

empty_only : (bytes : List ℕ) → AreBytes bytes → flat_map shown_byte bytes ≢ codes "%-"
unfolding percent_decode percent_encode_byte
empty_only bytes fits e =
    let is : bytes ≡ codes "%-" = sym (all_meant bytes fits) ∙ ap percent_decode e in
    let long : length (codes "%-") ≡ length (flat_map shown_byte (codes "%-")) = ap length (sym e ∙ ap (flat_map shown_byte) is) in
    let escape : length (flat_map shown_byte (codes "%-")) ≡ 4 = refl in
    absurd (omega (arith, long, escape))

pub shown_meant : (bytes : List ℕ) → AreBytes bytes → meant_bytes (shown_bytes bytes) ≡ bytes
shown_meant [] fits = refl
shown_meant (b ∷ bytes) fits =
    let word : List ℕ = flat_map shown_byte (b ∷ bytes) in
    elim (cases_Bool (bytes_eq word (codes "%-"))) [
      | inl same ↦ absurd (empty_only (b ∷ bytes) fits ((bytes_eq-Decides word (codes "%-")).0 same))
      | inr other ↦ cond-false (bytes_eq word (codes "%-")) [] (percent_decode word) other ∙ all_meant (b ∷ bytes) fits
    ]

pub shown_canonical : IsCanonical IsWord AreBytes are_bytes shown_bytes meant_bytes
shown_canonical = record { passes = bytes_pass; passed = bytes_passed; meant = shown_meant; proper = λ bytes fits. shown_word bytes }

-- ---- digests

-- the test of the first n places, which computes
abbrev all_low : ℕ → Bool
all_low zero = true
all_low (suc n) = nat_lt 32 (slice_index lower_digits n) && all_low n

low_at : (n k : ℕ) → all_low n ≡ true → k < n → 32 < slice_index lower_digits k
low_at zero k e lt = absurd (omega arith)
low_at (suc n) k e lt =
    let parts = and_parts (nat_lt 32 (slice_index lower_digits n)) (all_low n) e in
    elim (cases_lt k n) [
      | inl below ↦ low_at n k parts.1 below
      | inr top ↦
          let is : k ≡ n = omega arith in
          rw is (ltb-true 32 (slice_index lower_digits n) parts.0)
    ]

digit_word : (n : ℕ) → n < 16 → 32 < slice_index lower_digits n
digit_word n lt = low_at 16 n refl lt

digits_word : (bytes : List ℕ) → AreBytes bytes → IsWord (encode_lower bytes)
unfolding encode_with
digits_word [] fits = refl
digits_word (b ∷ bytes) fits =
    let lt : b < 256 = fits.0 in
    word-cons (slice_index lower_digits (b / 16)) (slice_index lower_digits (b % 16) ∷ encode_lower bytes) (digit_word (b / 16) (omega arith)) (word-cons (slice_index lower_digits (b % 16)) (encode_lower bytes) (digit_word (b % 16) (omega arith)) (digits_word bytes fits.1))

are_indexed : (bytes : List ℕ) → AreBytes bytes → IsBytes bytes
are_indexed [] fits i = omega arith
are_indexed (b ∷ bytes) fits zero = fits.0
are_indexed (b ∷ bytes) fits (suc i) = are_indexed bytes fits.1 i

pub digest_canonical : IsCanonical IsWord (λ bytes. (length bytes ≡ 32) × AreBytes bytes) are_digest encode_lower meant_digits
digest_canonical = record {
  passes = λ bytes fits. and_from (length bytes == 32) (are_bytes bytes) (eq-eqb (length bytes) 32 fits.0) (bytes_pass bytes fits.1);
  passed = λ bytes e. let t = and_parts (length bytes == 32) (are_bytes bytes) e in (eqb-true (length bytes) 32 t.0, bytes_passed bytes t.1);
  meant = λ bytes fits. ap decoded (decode_sized-twice (encode_lower bytes) 32 (length-encode_with lower_digits bytes ∙ ap (λ n. 2 * n) fits.0) ∙ decode_of-encode_lower bytes (are_indexed bytes fits.1));
  proper = λ bytes fits. digits_word bytes fits.1;
}
