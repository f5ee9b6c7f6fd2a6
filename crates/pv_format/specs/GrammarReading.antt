-- Reading by a grammar, from left to right.
use Rattle.std.specs.Prelude.{ℕ, ◌+◌, List, length, take, drop, Result, Ok, Err, nat_lt, if◌then◌else◌}
use Rattle.pv_format.specs.Grammars.{Grammar, give, here, item, check, Takes, Stops}

-- what is read, and the bytes after it, or the fault
unfoldable pub read : {F A : Type 0} → Grammar F A → List ℕ → Result (A × List ℕ) F
read (give x) bytes = Ok (x, bytes)
read (here f) bytes = read (f (length bytes)) bytes
read (item size after short f) bytes = if nat_lt (length bytes) (size + after) then Err (short (length bytes)) else read (f (take size bytes)) (drop size bytes)
read (check c e g) bytes = if c.tells then read g bytes else Err e

-- what there is to answer: what the grammar takes, or the fault by which it stops
abbrev pub IsRead : {F A : Type 0} → Grammar F A → List ℕ → Result (A × List ℕ) F → Type 0
IsRead g bytes (Ok (x, rest)) = Takes g bytes x rest
IsRead g bytes (Err e) = Stops g bytes e
