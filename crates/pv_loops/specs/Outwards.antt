-- The loops from one outwards, by their places in the list of loops.
use Rattle.std.specs.Prelude.{◌≡◌, ℕ, zero, suc, List, [], ◌∷◌, map, slice_get, slice_index, Option, Some, None}
use Rattle.pv_loops.specs.declared.forest.Loop.{Loop}
use Rattle.pv_loops.specs.declared.forest.TheConstants.{MAX_DEPTH}

-- the header of the loop at a place
abbrev pub header_at : List Loop → ℕ → ℕ
header_at loops i = slice_index (map (λ (l : Loop). l.header) loops) i

-- the place of a loop, and then those of the loops around it
abbrev pub place_and : ℕ → (Option ℕ → List ℕ) → Option Loop → List ℕ
place_and i outer None = []
place_and i outer (Some l) = i ∷ outer l.parent

-- the places of the loops from the one at this place outwards, at most n of them
unfoldable pub places_from : ℕ → List Loop → Option ℕ → List ℕ
places_from zero loops at = []
places_from (suc n) loops None = []
places_from (suc n) loops (Some i) = place_and i (λ parent. places_from n loops parent) (slice_get loops i)

-- for each node, which has this home, the places of the loops around it
abbrev pub AreRows : List Loop → List (Option ℕ) → List (List ℕ) → Type 0
AreRows loops homes rows = rows ≡ map (λ home. places_from MAX_DEPTH loops home) homes
