-- What the digits of a word mean.
use Rattle.std.specs.Prelude.{◌≡◌, ℕ, List, Option, Some, None, Ok, Err}
use Rattle.hex.specs.Hex.{decode_of}
use Rattle.hex.specs.declared.error.FromHexError.{FromHexError}

-- the bytes of which a word has the digits, in either case; None where it has those of none
abbrev pub IsMeant : List ℕ → Option (List ℕ) → Type 0
IsMeant word (Some bytes) = decode_of word ≡ Ok bytes
IsMeant word None = (e : FromHexError) × (decode_of word ≡ Err e)
