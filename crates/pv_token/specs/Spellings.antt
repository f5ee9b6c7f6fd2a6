-- How texts are spelled, and what their spellings mean.
use Rattle.std.specs.Prelude.{ℕ, ◌^◌, ◌<◌, ℤ, pos, neg_ℤ, int_le, int_lt, Bool, List, [], ◌∷◌, length, codes, nat_lt, nat_le, ◌==◌, ◌&&◌, not, if◌then◌else◌, Result, Ok, Err}
use Rattle.std.specs.Int.{Width}
use mir.Val.{hbits}
use Rattle.std.specs.List.{flat_map, AllByRecursion, list_all}
use Rattle.std.specs.Str.{bytes_eq}
use Rattle.hex.specs.Hex.{decode_sized}
use Rattle.hex.specs.declared.error.FromHexError.{FromHexError}
use Rattle.percent_encoding.specs.Percent.{percent_encode_byte, percent_decode}

-- whether a number fits this width with a sign: from -2^31 to 2^31 - 1 at 32 bits, from -2^63 to 2^63 - 1 at 64
abbrev pub fits_signed : Width → ℤ → Bool
fits_signed w z = int_le (neg_ℤ (pos (2 ^ hbits w))) z && int_lt z (pos (2 ^ hbits w))

-- numbers that are bytes
abbrev pub AreBytes : List ℕ → Type 0
AreBytes bytes = AllByRecursion (λ b. b < 256) bytes

abbrev pub are_bytes : List ℕ → Bool
are_bytes bytes = list_all (λ b. nat_lt b 256) bytes

-- a byte from 0x21 to 0x7E other than % stands for itself
abbrev pub is_plain : ℕ → Bool
is_plain b = nat_le 0x21 b && nat_le b 0x7E && not (b == 37)

-- every other byte is % and its two upper-case digits
abbrev pub shown_byte : ℕ → List ℕ
shown_byte b = if is_plain b then b ∷ [] else percent_encode_byte b

-- the empty text is %-
abbrev pub shown_bytes : List ℕ → List ℕ
shown_bytes [] = codes "%-"
shown_bytes (b ∷ bytes) = flat_map shown_byte (b ∷ bytes)

abbrev pub meant_bytes : List ℕ → List ℕ
meant_bytes word = if bytes_eq word (codes "%-") then [] else percent_decode word

-- 32 bytes
abbrev pub are_digest : List ℕ → Bool
are_digest bytes = (length bytes == 32) && are_bytes bytes

abbrev pub decoded : Result (List ℕ) FromHexError → List ℕ
decoded (Ok bytes) = bytes
decoded (Err e) = []

abbrev pub meant_digits : List ℕ → List ℕ
meant_digits word = decoded (decode_sized word 32)
