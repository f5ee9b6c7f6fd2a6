-- Numbers, texts and digests as words.
use Rattle.std.specs.Prelude.{◌≡◌, ℕ, ◌<◌, ◌^◌, ℤ, List, length, decimal, nat_lt, FitsSigned}
use Rattle.std.specs.Fmt.{signed_decimal}
use Rattle.std.specs.Int.{w32, w64}
use Rattle.std.specs.Str.Parse.{digits_value, signed_digits_value}
use Rattle.hex.specs.Hex.{encode_lower}
use Rattle.pv_format.specs.Combinators.{canonical}
use Rattle.pv_token.specs.Words.{Token}
use Rattle.pv_token.specs.Spellings.{fits_signed, AreBytes, are_bytes, shown_bytes, meant_bytes, are_digest, meant_digits}
use Rattle.pv_token.specs.TokenLaws

-- ---- numbers: decimal, without leading zeros

abbrev pub u32_token : Token ℕ
u32_token = canonical (λ n. n < 2 ^ 32) (λ n. nat_lt n (2 ^ 32)) decimal (digits_value 10) TokenLaws.u32_canonical

-- from -2147483648 to 2147483647, with - before a negative number alone
abbrev pub int_token : Token ℤ
int_token = canonical (FitsSigned w32) (fits_signed w32) signed_decimal (signed_digits_value 10) TokenLaws.int_canonical

-- from -9223372036854775808 to 9223372036854775807
abbrev pub long_token : Token ℤ
long_token = canonical (FitsSigned w64) (fits_signed w64) signed_decimal (signed_digits_value 10) TokenLaws.long_canonical

-- ---- texts

-- a text as it is shown
abbrev pub shown_token : Token (List ℕ)
shown_token = canonical AreBytes are_bytes shown_bytes meant_bytes TokenLaws.shown_canonical

-- 32 bytes, each as two lower-case digits
abbrev pub digest_token : Token (List ℕ)
digest_token = canonical (λ bytes. (length bytes ≡ 32) × AreBytes bytes) are_digest encode_lower meant_digits TokenLaws.digest_canonical
