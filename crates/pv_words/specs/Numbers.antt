-- Numbers as words.
use Rattle.std.specs.Prelude.{◌≡◌, ◌≤◌, ℕ, List, Option, Some, None, decimal}

-- the text spells the number in decimal, without a sign or a leading zero, and the number lies between these
pub record IsNumber (least greatest : ℕ) (text : List ℕ) (n : ℕ) : Type 0 where
  pub spelled : text ≡ decimal n
  pub at_least : least ≤ n
  pub at_most : n ≤ greatest

-- the number that the text is, None where it is none
abbrev pub ReadsNumber : ℕ → ℕ → List ℕ → Option ℕ → Type 0
ReadsNumber least greatest text (Some n) = IsNumber least greatest text n
ReadsNumber least greatest text None = (n : ℕ) → IsNumber least greatest text n → ⊥
