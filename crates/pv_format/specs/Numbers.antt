-- Numbers in bytes.
use Rattle.std.specs.Prelude.{ℕ, ◌*◌, ◌^◌, ◌<◌}
use Rattle.std.specs.Int.{Width, byte_len}

-- a number fits the bytes of its width
abbrev pub FitsNumber : Width → ℕ → Type 0
FitsNumber w n = n < 2 ^ (8 * byte_len w)
