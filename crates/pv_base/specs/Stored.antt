-- What a store of files holds: a finite map from names to bytes.
use Rattle.std.specs.Prelude.{ℕ, ◌<◌, List}
use Rattle.std.specs.List.{AllByRecursion}
use Rattle.std.specs.FinMap.{FinMap}
use Rattle.pv_value.specs.Order.{name_cmp}

abbrev pub Stored : Type 0
Stored = FinMap name_cmp (List ℕ)

-- numbers that are bytes
abbrev pub AreBytes : List ℕ → Type 0
AreBytes bytes = AllByRecursion (λ b. b < 256) bytes
