-- What holds of each of a list, at one place.
use Rattle.std.proofs.Common.{ℕ, zero, suc, ◌<◌, List, [], ◌∷◌, map, length, arith}
use Rattle.std.specs.List.{AllByRecursion, slice_index_or}

pub each_at : {A B : Type 0} (P : B → Type 0) (f : A → B) (xs : List A) (i : ℕ) (d : A) → i < length xs → AllByRecursion P (map f xs) → P (f (slice_index_or xs i d))
each_at P f [] i d lt are = absurd (omega arith)
each_at P f (x ∷ xs) zero d lt are = are.0
each_at P f (x ∷ xs) (suc i) d lt are = each_at P f xs i d (omega arith) are.1
