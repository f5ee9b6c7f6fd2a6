-- Testing byte by byte whether bytes are modified UTF-8.
use Rattle.std.specs.Prelude.{ℕ, zero, suc, List, [], ◌∷◌, Bool, false, Option, Some, None, nat_lt, nat_le, ◌==◌, ◌&&◌, if◌then◌else◌}

-- how many bytes of a group of modified UTF-8 are to come after this one, where the first number were to come with it; 0 says that it is the first
abbrev pub awaited : ℕ → ℕ → Option ℕ
awaited zero b =
    if nat_le 0x01 b && nat_lt b 0x80 then Some 0 else if nat_le 0xC0 b && nat_lt b 0xE0 then Some 1 else if nat_le 0xE0 b && nat_lt b 0xF0 then Some 2 else None
awaited (suc n) b = if nat_lt n 2 && (nat_le 0x80 b && nat_lt b 0xC0) then Some n else None

abbrev pub found : (ℕ → Bool) → Option ℕ → Bool
found test (Some n) = test n
found test None = false

-- whether the rest of a group, and then whole groups, stand here
unfoldable pub is_text_from : List ℕ → ℕ → Bool
is_text_from [] n = n == 0
is_text_from (b ∷ bytes) n = found (is_text_from bytes) (awaited n b)
