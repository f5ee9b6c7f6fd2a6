-- A store into a local; private to this crate.
use Rattle.std.specs.Prelude.{◌≡◌, ℕ, Bool, true, false, List, Option, Some, None}
use Rattle.pv_value.specs.declared.number.Num.{Num}
use Rattle.pv_frame.specs.Stacks.{has_room, set_local}
use Rattle.pv_frame.specs.Effects.{sort_of, sort_of_local}

-- a number is stored into local k, or the locals stay where there are too few
abbrev pub IsStored : List (Option Num) → ℕ → Num → Bool → List (Option Num) → Type 0
IsStored old k n true new = (has_room (sort_of n) k old ≡ true) × (new ≡ set_local sort_of_local None k (Some n) old)
IsStored old k n false new = (has_room (sort_of n) k old ≡ false) × (new ≡ old)
