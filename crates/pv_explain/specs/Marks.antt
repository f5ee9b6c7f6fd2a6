-- Marks: one for each join of a search, or for each of its nodes.
use Rattle.std.specs.Prelude.{◌≡◌, ℕ, ◌≤◌, Bool, true, List, length, Some, slice_get}

abbrev pub IsMarked : List Bool → ℕ → Type 0
IsMarked marks i = slice_get marks i ≡ Some true

-- no mark is taken away
pub record KeepsMarks (old new : List Bool) : Type 0 where
  pub long : length new ≡ length old
  pub stay : (k : ℕ) → IsMarked old k → IsMarked new k

-- more are marked before this number, and no others
pub record MarksMore (before : ℕ) (old new : List Bool) : Type 0 where
  pub long : length new ≡ length old
  pub stay : (k : ℕ) → IsMarked old k → IsMarked new k
  pub rest : (k : ℕ) → before ≤ k → IsMarked new k → IsMarked old k
