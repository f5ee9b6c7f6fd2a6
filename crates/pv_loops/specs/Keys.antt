-- The keys by which nodes are ordered, so that those of a loop stand together.
use Rattle.std.specs.Prelude.{◌≡◌, ℕ, ◌<◌, List, [], ◌∷◌, length, map, reverse, slice_index, slice_index_or}
use Rattle.std.specs.Global.{Vec}
use Rattle.pv_loops.specs.declared.forest.Loop.{Loop}
use Rattle.pv_loops.specs.Outwards.{header_at}

-- the key of the first of these nodes, which the others are headers around, the innermost first: their places, the outermost first
abbrev pub IsKey : List ℕ → List ℕ → List ℕ → Type 0
IsKey place nodes key = key ≡ reverse (map (λ x. slice_index place x) nodes)

-- the key of a node
abbrev pub key_at : List (Vec ℕ) → ℕ → List ℕ
key_at keys x = slice_index_or (map (λ (key : Vec ℕ). key.items) keys) x []

-- each node, inside the loops of its row, has its key
abbrev pub AreKeys : List Loop → List ℕ → List (List ℕ) → List (Vec ℕ) → Type 0
AreKeys loops place rows keys = (x : ℕ) → x < length rows → IsKey place (x ∷ map (header_at loops) (slice_index_or rows x [])) (key_at keys x)
