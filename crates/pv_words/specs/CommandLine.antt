-- The words of a command line.
use Rattle.std.specs.Prelude.{ℕ, List, drop, map}
use Rattle.std.specs.Global.{Global}
use Rattle.std.specs.Prelude.{String}
use Rattle.std.specs.String.{string_bytes}

abbrev pub bytes_of : List (String Global) → List (List ℕ)
bytes_of words = map string_bytes words

-- the words after the program's name
abbrev pub after_name : List (String Global) → List (List ℕ)
after_name words = drop 1 (bytes_of words)
