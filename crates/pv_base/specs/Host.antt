-- What the loops over real files and streams take.
use Rattle.std.specs.Prelude.{◌≡◌, ℕ, ◌<◌, ◌≤◌, List, length, take, Option, Result, Ok, Err}
use Rattle.std.specs.Global.{Vec}
use Rattle.std.specs.Io.KnownBytes.{Appends, Consumes}
use Rattle.pv_base.specs.declared.outside.FileFault.{FileFault}
use Rattle.pv_base.specs.declared.outside.FileFault.TheVariants as file

-- all of what was left, or too long where that is more than the limit
abbrev pub GivesAll : List ℕ → ℕ → Result (Vec ℕ) FileFault → Type 0
GivesAll left limit (Ok v) = v.items ≡ left
GivesAll left limit (Err file.TooLong) = limit < length left
GivesAll left limit (Err e) = Unit {0}

-- a reader gave `most` bytes at most
abbrev pub TakesWithin : ℕ → Option (List ℕ) → Option (List ℕ) → Type 0
TakesWithin most old new = (taken : List ℕ) × (length taken ≤ most) × Consumes old new taken

-- known bytes grow by the first of these bytes, however many
abbrev pub AppendsPart : Option (List ℕ) → Option (List ℕ) → List ℕ → Type 0
AppendsPart old new bytes = (n : ℕ) × Appends old new (take n bytes)
