-- Shapes of control flow: for each node the list of the nodes that its edges go to. Node 0 is the entry.
use Rattle.std.specs.Prelude.{◌≡◌, ℕ, ◌<◌, List, [], length, slice_index_or, ◌↔◌, ◌⊎◌}
use Rattle.std.specs.List.{Contains}

-- where the edges out of a node go
abbrev pub targets : List (List ℕ) → ℕ → List ℕ
targets s a = slice_index_or s a []

-- an edge from a to b; edges count as a set
abbrev pub Edge : List (List ℕ) → ℕ → ℕ → Type 0
Edge s a b = Contains (targets s a) b

-- there is an entry, and each edge goes to a node of the shape
pub record IsShape (s : List (List ℕ)) : Type 0 where
  pub entry : 0 < length s
  pub within : (a b : ℕ) → Edge s a b → b < length s

-- the same edges the other way round
pub record IsReversed (s sources : List (List ℕ)) : Type 0 where
  pub size : length sources ≡ length s
  pub edges : (a b : ℕ) → Edge sources b a ↔ Edge s a b

-- each of these nodes has n as one more source
pub record AddsSources (old new : List (List ℕ)) (n : ℕ) (nodes : List ℕ) : Type 0 where
  pub size : length new ≡ length old
  pub edges : (a b : ℕ) → Edge new b a ↔ (Edge old b a ⊎ (a ≡ n) × Contains nodes b)
