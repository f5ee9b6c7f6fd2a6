-- Words that are read two by two.
use Rattle.std.proofs.Common.{◌≡◌, ◌==◌, ℕ, ◌<◌, false, List, [], ◌∷◌, ◌++◌, length, Option, None, arith}
use Rattle.std.specs.Borrow.{Bor}
use Rattle.std.specs.Option.{option_map}
use Rattle.pv_format.specs.Reading.{read_pairs}
use Rattle.pv_format.specs.Seen.{texts}

-- one word is no pair
pub pairs_odd : {A : Type 0} (read : List ℕ → Option A) (done : List (A × A)) (words : List (Bor (List ℕ))) (r : Option (List (A × A)))
    → length words < 2 → (length words == 0) ≡ false → option_map (λ more. done ++ more) (read_pairs read (texts words)) ≡ r → None ≡ r
pairs_odd read done [] r lt some so_far = absurd (cc)
pairs_odd read done (word ∷ []) r lt some so_far = so_far
pairs_odd read done (word ∷ next ∷ words) r lt some so_far = absurd (omega arith)
