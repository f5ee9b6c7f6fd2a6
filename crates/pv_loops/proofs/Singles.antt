-- Groups of one node each, as they are made.
use Rattle.std.proofs.Common.{◌≡◌, ℕ, ◌<◌, ◌≤◌, List, [], ◌∷◌, length, get_or}

-- the groups of the nodes below n are made
pub record AreSingles (leader place : List ℕ) (members : List (List ℕ)) (count n : ℕ) : Type 0 where
  pub leaders : length leader ≡ n
  pub places : length place ≡ n
  pub lists : length members ≡ count
  pub leader_at : (x : ℕ) → x < n → get_or leader x 0 ≡ x
  pub place_at : (x : ℕ) → x < n → get_or place x 0 ≡ 0
  pub row : (x : ℕ) → x < n → get_or members x [] ≡ x ∷ []
  pub rest : (x : ℕ) → n ≤ x → get_or members x [] ≡ []
