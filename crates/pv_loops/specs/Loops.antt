-- Loops by reachability, as nested regions with one header each (Allen and Cocke).
use Rattle.std.specs.Prelude.{◌≡◌, ◌≢◌, ℕ, List, [], ◌∷◌, ◌⊎◌}
use Rattle.std.specs.List.{Contains}
use Rattle.pv_loops.specs.Shapes.{Edge}

-- where loops are looked for: in the whole shape, or among the nodes of a loop without the edges to its header
pub data Region : Type 0 where
  Whole : Region
  Inside : (members : List ℕ) (header : ℕ) → Region

-- the edges of a region
abbrev pub EdgeOf : List (List ℕ) → Region → ℕ → ℕ → Type 0
EdgeOf s Whole a b = Edge s a b
EdgeOf s (Inside members header) a b = Edge s a b × Contains members a × Contains members b × (b ≢ header)

-- a way from a to b of one edge of the region or more, all inside the set
pub data Way (s : List (List ℕ)) (r : Region) (set : List ℕ) : ℕ → ℕ → Type 0 where
  edge : (a b : ℕ) → EdgeOf s r a b → Contains set a → Contains set b → Way s r set a b
  more : (a b c : ℕ) → EdgeOf s r a b → Contains set a → Way s r set b c → Way s r set a c

-- each is reached from each, also from itself, inside the set
abbrev pub IsConnected : List (List ℕ) → Region → List ℕ → Type 0
IsConnected s r set = (a b : ℕ) → Contains set a → Contains set b → Way s r set a b

-- each node of the first set is in the second
abbrev pub IsWithin : List ℕ → List ℕ → Type 0
IsWithin xs ys = (a : ℕ) → Contains xs a → Contains ys a

-- a largest set in which each is reached from each
pub record IsLargest (s : List (List ℕ)) (r : Region) (set : List ℕ) : Type 0 where
  pub some : (a : ℕ) × Contains set a
  pub connected : IsConnected s r set
  pub largest : (larger : List ℕ) → IsWithin set larger → IsConnected s r larger → IsWithin larger set

-- a node where the set is entered: the entry of the shape, or a node with an edge from outside
abbrev pub Enters : List (List ℕ) → List ℕ → ℕ → Type 0
Enters s set b = (b ≡ 0) ⊎ ((a : ℕ) × Edge s a b × (Contains set a → ⊥))

-- the only node of the set where it is entered
pub record IsHeader (s : List (List ℕ)) (set : List ℕ) (header : ℕ) : Type 0 where
  pub member : Contains set header
  pub enters : Enters s set header
  pub only : (b : ℕ) → Contains set b → Enters s set b → b ≡ header

-- a loop of the shape, with the headers of the loops around it, its own first and the outermost last.
-- A loop that isn't inside another has depth 1: its depth is the number of these headers
pub data IsLoop (s : List (List ℕ)) : List ℕ → List ℕ → Type 0 where
  outermost : (header : ℕ) (members : List ℕ) → IsLargest s Whole members → IsHeader s members header → IsLoop s (header ∷ []) members
  inner : (header outer : ℕ) (around members set : List ℕ) → IsLoop s (outer ∷ around) set → IsLargest s (Inside set outer) members → IsHeader s members header
      → IsLoop s (header ∷ outer ∷ around) members
